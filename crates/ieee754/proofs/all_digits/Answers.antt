-- One step at three bases: 8 digits give 16, those 32, those 54.
use Rattle.std.proofs.Common.{◌/◌, ◌^◌, arith}
use Rattle.ieee754.proofs.Step.{room, joined}
use Rattle.ieee754.proofs.all_digits.Goals as goal

pub more_digits-s16-requires : goal.more_digits-s16-requires
more_digits-s16-requires c = record { root = c.first_digits-s8.ensures; room = room (2 ^ 7) (2 ^ 8) c.first_digits-s8.ensures (omega arith) }

pub more_digits-s32-requires : goal.more_digits-s32-requires
more_digits-s32-requires c =
    let r = joined (2 ^ 8) (c.args.h / 2 ^ 32) c.more_digits-s16.result c.more_digits-s16.ensures in
    record { root = r; room = room (2 ^ 15) (2 ^ 16) r (omega arith) }

pub more_digits-requires : goal.more_digits-requires
more_digits-requires c =
    let r = joined (2 ^ 16) c.args.h c.more_digits-s32.result c.more_digits-s32.ensures in
    record { root = r; room = room (2 ^ 31) (2 ^ 32) r (omega arith) }
