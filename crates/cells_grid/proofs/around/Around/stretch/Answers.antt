use mathlib.Core.Path.{ap, ◌∙◌}
use Prim.Native.Nat.{ℕ}
use native.Mathlib.Omega.{arith}
use Rattle.blocks.specs.AroundLaws.{few_rows}
use Rattle.blocks.specs.Blocks.{stretch_in}
use Rattle.cells_grid.proofs.RowsAround.{along_low, bucket_is}
use Rattle.cells_grid.proofs.around.Around.stretch.Goals as goal

pub bounds-self-m : goal.bounds-self-m
bounds-self-m c = omega (arith, c.requires.0, few_rows c.args.self.now.frames.now.ready)

pub bucket-b-requires : goal.bucket-b-requires
bucket-b-requires c = (c.requires.1, omega (arith, c.requires.2), along_low c.args.self.now)

pub returns : goal.returns
returns c = c.stretch_at.ensures ∙ ap (λ (b : ℕ). stretch_in c.args.work.now c.args.ends b c.args.size) (bucket_is c.args.self.now c.args.size c.args.m c.requires.0 c.bucket-b.ensures.value)
