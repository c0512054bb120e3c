-- `mark_cells` meets its contract: the marks are the leaders, once each is the lowest cell of its set.
use mathlib.Core.Path.{◌≡◌, ap, ◌∙◌}
use native.Mathlib.Omega.{arith}
use lib.ListN.{length, get_or}
use Rattle.lists.specs.ListLaws.{length_numbers, map_same, at_numbers}
use Rattle.partitions.specs.Leaders.{root}
use Rattle.clustering.specs.Runs.{runs_of}
use Rattle.clustering.proofs.marks.mark_cells.Goals as goal

pub write_runs-requires : goal.write_runs-requires
write_runs-requires c =
    let e : length c.copy.new.words ≡ length c.args.leaders.now = ap length (c.copy.ensures ∙ c.flatten.ensures) ∙ length_numbers (root c.args.leaders.now) (length c.args.leaders.now) in
    (λ x i. omega (arith, e, c.requires.1 x i), c.requires.4, c.requires.2)

pub returns-clause-runs : goal.returns-clause-runs
returns-clause-runs c =
    let low = root c.args.leaders.now in
    let n = length c.args.leaders.now in
    c.write_runs.ensures
    ∙ ap runs_of (map_same _ low c.args.cells.now (λ x i. ap (λ ms. get_or ms x 0) (c.copy.ensures ∙ c.flatten.ensures) ∙ at_numbers low 0 n x (c.requires.1 x i)))
