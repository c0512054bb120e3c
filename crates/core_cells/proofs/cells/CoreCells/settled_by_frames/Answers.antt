-- No core frame, a hit, all out of reach, or neither.
use mathlib.Core.Path.{refl}
use mathlib.Core.Bool.{true}
use borrow.Author.Tests.{lt-ltb}
use Rattle.core_cells.proofs.Reaching.{frames_value, frames_rest, frames_none, hit}
use Rattle.core_cells.proofs.cells.CoreCells.settled_by_frames.Goals as goal

pub returns-in_default : goal.returns-in_default
returns-in_default c =
    let z = frames_none c.args.self.now c.requires.0 c.requires.1 c.in_default.ensures.value refl in
    record { value = z.0; tells = z.1 }

pub returns-then-least-v : goal.returns-then-least-v
returns-then-least-v c = record {
  value = frames_value c.args.self.now c.requires.0 c.requires.1 c.in-Some.ensures.value true _ (lt-ltb _ _ c.if-least-v.true) refl;
  tells = hit c.args.self.now c.requires.0 c.requires.1 c.in-Some.ensures.value c.if-least-v.true;
}

pub returns : goal.returns
returns c =
    let z = frames_rest c.args.self.now c.requires.0 c.requires.1 c.in-Some.ensures.value c.if-least-v.false c.out_of_reach.ensures c.then_some.ensures in
    record { value = z.0; tells = z.1 }
