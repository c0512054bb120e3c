-- `build_tree` meets its contract: `Gathered` is what holds once the core frames are gathered.
use mathlib.Core.Path.{ap, ◌∙◌}
use native.Mathlib.Omega.{arith}
use lib.ListN.{length, length-set}
use Rattle.core_cells.proofs.OneTree.{ripe, cells_few, gathered, gathered_length, emptied, small_next, none_work, small_work}
use Rattle.core_cells.proofs.OneTree.{fits, above, frames_laid, can_build, built, tree_room, word_low, some_next, cleared_length, some_work}
use Rattle.core_cells.proofs.building.build_tree.Goals as goal

pub gather_core-m-requires : goal.gather_core-m-requires
gather_core-m-requires c =
    let R = ripe c.args.frames.now.ready c.requires.ready c.requires.s_in_bounds in
    (c.requires.ready, c.requires.c_lt_k.0, omega (arith, R.room))

pub overflow_add-slot : goal.overflow_add-slot
overflow_add-slot c =
    let g = gathered (ripe c.args.frames.now.ready c.requires.ready c.requires.s_in_bounds) c.requires.c_lt_k.0 c.requires.c_lt_k.1 c.gather_core-m.ensures.value c.gather_core-m.ensures.work_after in
    omega (arith, cells_few g.ripe, g.ripe.few, g.inside)

pub offset_bounds-work-slot : goal.offset_bounds-work-slot
offset_bounds-work-slot c =
    let g = gathered (ripe c.args.frames.now.ready c.requires.ready c.requires.s_in_bounds) c.requires.c_lt_k.0 c.requires.c_lt_k.1 c.gather_core-m.ensures.value c.gather_core-m.ensures.work_after in
    omega (arith, cells_few g.ripe, g.ripe.few, g.inside)

pub bounds-work-slot : goal.bounds-work-slot
bounds-work-slot c =
    let g = gathered (ripe c.args.frames.now.ready c.requires.ready c.requires.s_in_bounds) c.requires.c_lt_k.0 c.requires.c_lt_k.1 c.gather_core-m.ensures.value c.gather_core-m.ensures.work_after in
    omega (arith, cells_few g.ripe, g.ripe.room, g.inside, gathered_length g)

pub returns-then-m-eq0 : goal.returns-then-m-eq0
returns-then-m-eq0 c =
    let g = gathered (ripe c.args.frames.now.ready c.requires.ready c.requires.s_in_bounds) c.requires.c_lt_k.0 c.requires.c_lt_k.1 c.gather_core-m.ensures.value c.gather_core-m.ensures.work_after in
    record { value = small_next g (omega (arith, c.if-m-eq0.true)); work_after = none_work g (omega (arith, c.if-m-eq0.true)) c.if-m-eq0.true }

pub clear_words-requires : goal.clear_words-requires
clear_words-requires c =
    let g = gathered (ripe c.args.frames.now.ready c.requires.ready c.requires.s_in_bounds) c.requires.c_lt_k.0 c.requires.c_lt_k.1 c.gather_core-m.ensures.value c.gather_core-m.ensures.work_after in
    omega (arith, g.ripe.room, g.most, gathered_length g)

pub offset_bounds-work-slot-then-m-few : goal.offset_bounds-work-slot-then-m-few
offset_bounds-work-slot-then-m-few c =
    let g = gathered (ripe c.args.frames.now.ready c.requires.ready c.requires.s_in_bounds) c.requires.c_lt_k.0 c.requires.c_lt_k.1 c.gather_core-m.ensures.value c.gather_core-m.ensures.work_after in
    omega (arith, cells_few g.ripe, g.ripe.few, g.inside)

pub bounds-work-slot-then-m-few : goal.bounds-work-slot-then-m-few
bounds-work-slot-then-m-few c =
    let g = gathered (ripe c.args.frames.now.ready c.requires.ready c.requires.s_in_bounds) c.requires.c_lt_k.0 c.requires.c_lt_k.1 c.gather_core-m.ensures.value c.gather_core-m.ensures.work_after in
    omega (arith, cells_few g.ripe, g.ripe.room, g.inside, ap length (c.clear_words.ensures ∙ emptied g))

pub shape_of-work-then-m-few : goal.shape_of-work-then-m-few
shape_of-work-then-m-few c =
    let g = gathered (ripe c.args.frames.now.ready c.requires.ready c.requires.s_in_bounds) c.requires.c_lt_k.0 c.requires.c_lt_k.1 c.gather_core-m.ensures.value c.gather_core-m.ensures.work_after in
    simp length-set (ap length (c.clear_words.ensures ∙ emptied g))

pub returns-then-m-few : goal.returns-then-m-few
returns-then-m-few c =
    let g = gathered (ripe c.args.frames.now.ready c.requires.ready c.requires.s_in_bounds) c.requires.c_lt_k.0 c.requires.c_lt_k.1 c.gather_core-m.ensures.value c.gather_core-m.ensures.work_after in
    record { value = small_next g c.if-m-few.true; work_after = small_work g c.if-m-few.true c.if-m-eq0.false c.clear_words.ensures }

pub split_at_mut-scratch-requires : goal.split_at_mut-scratch-requires
split_at_mut-scratch-requires c =
    let g = gathered (ripe c.args.frames.now.ready c.requires.ready c.requires.s_in_bounds) c.requires.c_lt_k.0 c.requires.c_lt_k.1 c.gather_core-m.ensures.value c.gather_core-m.ensures.work_after in
    omega (arith, c.split_at_mut-copy.ensures.back_len, c.split_at_mut-front.ensures.back_len, gathered_length g, fits g c.if-m-few.false, above g c.if-m-few.false)

pub slice_bounds-members-end : goal.slice_bounds-members-end
slice_bounds-members-end c =
    let g = gathered (ripe c.args.frames.now.ready c.requires.ready c.requires.s_in_bounds) c.requires.c_lt_k.0 c.requires.c_lt_k.1 c.gather_core-m.ensures.value c.gather_core-m.ensures.work_after in
    omega (arith, c.split_at_mut-front.ensures.front_len, g.most)

pub build_structure-size-requires-clause-room : goal.build_structure-size-requires-clause-room
build_structure-size-requires-clause-room c =
    let g = gathered (ripe c.args.frames.now.ready c.requires.ready c.requires.s_in_bounds) c.requires.c_lt_k.0 c.requires.c_lt_k.1 c.gather_core-m.ensures.value c.gather_core-m.ensures.work_after in
    can_build g c.if-m-few.false c.split_at_mut-front.ensures.front c.split_at_mut-front.ensures.back c.split_at_mut-copy.ensures.front c.split_at_mut-copy.ensures.back c.split_at_mut-scratch.ensures.front c.split_at_mut-scratch.ensures.back

pub overflow_cast-work : goal.overflow_cast-work
overflow_cast-work c =
    let g = gathered (ripe c.args.frames.now.ready c.requires.ready c.requires.s_in_bounds) c.requires.c_lt_k.0 c.requires.c_lt_k.1 c.gather_core-m.ensures.value c.gather_core-m.ensures.work_after in
    omega (arith, word_low g c.if-m-few.false)

pub offset_bounds-work-slot-2 : goal.offset_bounds-work-slot-2
offset_bounds-work-slot-2 c =
    let g = gathered (ripe c.args.frames.now.ready c.requires.ready c.requires.s_in_bounds) c.requires.c_lt_k.0 c.requires.c_lt_k.1 c.gather_core-m.ensures.value c.gather_core-m.ensures.work_after in
    omega (arith, cells_few g.ripe, g.ripe.few, g.inside)

pub bounds-work-slot-2 : goal.bounds-work-slot-2
bounds-work-slot-2 c =
    let g = gathered (ripe c.args.frames.now.ready c.requires.ready c.requires.s_in_bounds) c.requires.c_lt_k.0 c.requires.c_lt_k.1 c.gather_core-m.ensures.value c.gather_core-m.ensures.work_after in
    let b = built g c.if-m-few.false c.split_at_mut-front.ensures.front c.split_at_mut-front.ensures.back c.split_at_mut-copy.ensures.front c.split_at_mut-copy.ensures.back c.split_at_mut-scratch.ensures.front c.split_at_mut-scratch.ensures.back c.build_structure-size.ensures.cleared.0 c.build_structure-size.ensures.cleared.1 c.build_structure-size.ensures.words in
    omega (arith, cells_few g.ripe, g.ripe.room, g.inside, cleared_length g c.if-m-few.false b c.clear_words-2.ensures)

pub overflow_mul-result : goal.overflow_mul-result
overflow_mul-result c =
    let g = gathered (ripe c.args.frames.now.ready c.requires.ready c.requires.s_in_bounds) c.requires.c_lt_k.0 c.requires.c_lt_k.1 c.gather_core-m.ensures.value c.gather_core-m.ensures.work_after in
    let l = frames_laid g c.if-m-few.false c.split_at_mut-front.ensures.front c.split_at_mut-front.ensures.back c.split_at_mut-copy.ensures.front c.split_at_mut-copy.ensures.back c.split_at_mut-scratch.ensures.front c.split_at_mut-scratch.ensures.back in
    omega (arith, tree_room g c.if-m-few.false l c.build_structure-size.ensures.size)

pub overflow_add-result : goal.overflow_add-result
overflow_add-result c =
    let g = gathered (ripe c.args.frames.now.ready c.requires.ready c.requires.s_in_bounds) c.requires.c_lt_k.0 c.requires.c_lt_k.1 c.gather_core-m.ensures.value c.gather_core-m.ensures.work_after in
    let l = frames_laid g c.if-m-few.false c.split_at_mut-front.ensures.front c.split_at_mut-front.ensures.back c.split_at_mut-copy.ensures.front c.split_at_mut-copy.ensures.back c.split_at_mut-scratch.ensures.front c.split_at_mut-scratch.ensures.back in
    omega (arith, tree_room g c.if-m-few.false l c.build_structure-size.ensures.size)

pub returns : goal.returns
returns c =
    let g = gathered (ripe c.args.frames.now.ready c.requires.ready c.requires.s_in_bounds) c.requires.c_lt_k.0 c.requires.c_lt_k.1 c.gather_core-m.ensures.value c.gather_core-m.ensures.work_after in
    let l = frames_laid g c.if-m-few.false c.split_at_mut-front.ensures.front c.split_at_mut-front.ensures.back c.split_at_mut-copy.ensures.front c.split_at_mut-copy.ensures.back c.split_at_mut-scratch.ensures.front c.split_at_mut-scratch.ensures.back in
    let b = built g c.if-m-few.false c.split_at_mut-front.ensures.front c.split_at_mut-front.ensures.back c.split_at_mut-copy.ensures.front c.split_at_mut-copy.ensures.back c.split_at_mut-scratch.ensures.front c.split_at_mut-scratch.ensures.back c.build_structure-size.ensures.cleared.0 c.build_structure-size.ensures.cleared.1 c.build_structure-size.ensures.words in
    record { value = some_next g c.if-m-few.false l c.build_structure-size.ensures.size; work_after = some_work g c.if-m-few.false b c.clear_words-2.ensures }
