-- An entry of the table is the root, and the nearest.
use Rattle.ieee754.proofs.Roots.{table}
use Rattle.ieee754.proofs.root_of_small.Goals as goal

pub returns : goal.returns
returns c =
    let z = table c.args.n c.requires.0 c.requires.1 in
    record { value = z.0; nearest = z.1 }
