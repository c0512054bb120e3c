-- `label_words` meets its contract: the cells are united, the clusters numbered, and the frames labelled.
use Rattle.std.proofs.Common.{arith, ◌≡◌, ◌∙◌, ap, ap₂, sym, ℕ, ◌*◌, List, length, length-take-le}
use Rattle.lists.specs.Words.{column}
use Rattle.lists.specs.ListLaws.{length_numbers}
use Rattle.counting_tree.specs.declared.run.Frames.{Frames}
use Rattle.counting_tree.specs.Given.{geometry}
use Rattle.clustering.specs.Clusters.{place, clusters, label_by, kind_of}
use Rattle.clustering.specs.Uniting.{lowest_at}
use Rattle.clustering.specs.Numbering.{cluster_word}
use Rattle.clustering.proofs.InWords.{front_size, four_laid, four_same}
use Rattle.clustering.proofs.Whole.{can_number, clusters_counted, clusters_are}
use Rattle.clustering.proofs.Clearing.{again_on}
use Rattle.clustering.proofs.Phases.{few_words}
use Rattle.clustering.proofs.label_words.Goals as goal

pub unite_listed_cells-requires : goal.unite_listed_cells-requires
unite_listed_cells-requires c =
    let e = c.listed_cells-cells.ensures in
    let r = c.requires.cells in
    let a = c.split_at_mut-leaders.ensures in
    let b = c.split_at_mut-cluster_of.ensures in
    let d = c.split_at_mut-labels.ensures in (
      length-take-le c.args.k _ (omega (arith, a.front_len, r.few)) ∙ sym e.1,
      length-take-le c.args.k _ (omega (arith, a.back_len, b.back_len, d.back_len, c.requires.sizes.0, r.few)) ∙ sym e.1,
      length-take-le c.args.k _ (omega (arith, d.front_len, r.few)) ∙ sym e.1,
      omega (arith, e.1, r.few, c.requires.sizes.1),
    )

pub number_clusters-m-requires-clause-sizes : goal.number_clusters-m-requires-clause-sizes
number_clusters-m-requires-clause-sizes c =
    let e = c.listed_cells-cells.ensures in
    let t = c.trees.ensures.length in (
      omega (arith, t, few_words c.listed_cells-cells.result.core.grid),
      ap length c.unite_listed_cells.ensures.leaders ∙ length_numbers _ _ ∙ sym t,
      length-take-le c.args.k _ (omega (arith, c.split_at_mut-cluster_of.ensures.front_len, c.requires.cells.few)) ∙ sym e.1 ∙ sym t,
    )

pub number_clusters-m-requires-clause-led : goal.number_clusters-m-requires-clause-led
number_clusters-m-requires-clause-led c = can_number c.listed_cells-cells.result.core.grid c.unite_listed_cells.new.leaders c.trees.result.now c.unite_listed_cells.ensures.leaders c.trees.ensures.length c.trees.ensures.core

pub label_frames-requires-clause-sizes : goal.label_frames-requires-clause-sizes
label_frames-requires-clause-sizes c =
    let e = c.listed_cells-cells.ensures in
    let r = c.requires.cells in
    let d = c.split_at_mut-labels.ensures in
    let B = c.split_at_mut-labels.result.0.now in
    let K = c.split_at_mut-labels.result.1.now in
    let z = c.unite_listed_cells.auto in
    let kk : length K ≡ c.args.frames.n = omega (arith, c.split_at_mut-leaders.ensures.back_len, c.split_at_mut-cluster_of.ensures.back_len, d.back_len, c.requires.sizes.0) in
    let n : c.args.frames.n ≡ c.listed_cells-cells.result.core.grid.frames.n = ap (λ (f : Frames). f.n) (sym e.0) in (
      front_size c.unite_listed_cells.new.runs B (z.runs ∙ length-take-le c.args.k B (omega (arith, d.front_len, r.few))) (omega (arith, d.front_len, r.few)) ∙ d.front_len ∙ n,
      front_size c.unite_listed_cells.new.marks K (z.marks ∙ length-take-le c.args.k K (omega (arith, kk, r.few))) (omega (arith, kk, r.few)) ∙ kk ∙ n,
      omega (arith, z.list, c.requires.sizes.1, e.1, r.few),
    )

pub label_frames-requires-clause-clusters : goal.label_frames-requires-clause-clusters
label_frames-requires-clause-clusters c =
    let s = c.listed_cells-cells.result.core.grid in (
      clusters_counted s c.unite_listed_cells.new.leaders c.trees.result.now c.unite_listed_cells.ensures.leaders c.trees.ensures.length c.trees.ensures.core c.number_clusters-m.ensures.count,
      clusters_are s c.unite_listed_cells.new.leaders c.trees.result.now c.unite_listed_cells.ensures.leaders c.trees.ensures.length c.trees.ensures.core c.number_clusters-m.ensures.clusters,
    )

pub returns-clause-value : goal.returns-clause-value
returns-clause-value c =
    clusters_counted c.listed_cells-cells.result.core.grid c.unite_listed_cells.new.leaders c.trees.result.now c.unite_listed_cells.ensures.leaders c.trees.ensures.length c.trees.ensures.core c.number_clusters-m.ensures.count
    ∙ ap (λ (f : Frames). length (clusters (geometry f))) c.listed_cells-cells.ensures.0

pub returns-clause-words : goal.returns-clause-words
returns-clause-words c =
    let e = c.listed_cells-cells.ensures in
    let a = c.split_at_mut-leaders.ensures in
    let b = c.split_at_mut-cluster_of.ensures in
    let d = c.split_at_mut-labels.ensures in
    let s = c.listed_cells-cells.result.core.grid in
    let n = c.args.frames.n in
    let k = c.args.k in
    let ls = c.unite_listed_cells.ensures.leaders in
    let cs = clusters_are s c.unite_listed_cells.new.leaders c.trees.result.now ls c.trees.ensures.length c.trees.ensures.core c.number_clusters-m.ensures.clusters in
    let lead : Frames → ℕ → List ℕ = λ f k. column (lowest_at (geometry f) (f.n * f.n)) k in
    let number : Frames → ℕ → List ℕ = λ f k. column (cluster_word (geometry f)) k in
    let label : Frames → List ℕ = λ f. column (label_by (geometry f) (λ i. place i (clusters (geometry f)))) f.n in
    let kind : Frames → List ℕ = λ f. column (kind_of (geometry f)) f.n in
    let one = ls ∙ ap₂ lead e.0 e.1 in
    let two = cs ∙ ap₂ number e.0 e.1 in
    let three = c.label_frames.ensures.labels ∙ ap label e.0 in
    let four = c.label_frames.ensures.kinds ∙ ap kind e.0 in
    let kk : length c.split_at_mut-labels.result.1.now ≡ n = omega (arith, a.back_len, b.back_len, d.back_len, c.requires.sizes.0) in
    four_laid c.split_at_mut-leaders.result.0.now c.split_at_mut-cluster_of.result.0.now c.split_at_mut-labels.result.0.now c.split_at_mut-labels.result.1.now
    c.unite_listed_cells.new.leaders c.number_clusters-m.new.cluster_of c.label_frames.new.labels c.label_frames.new.kinds
    a.value b.value d.value a.front_len b.front_len d.front_len kk c.requires.cells.few
    (ap length one ∙ length_numbers _ k) (ap length two ∙ length_numbers _ k) (ap length three ∙ length_numbers _ n) (ap length four ∙ length_numbers _ n)
    ∙ four_same c.args.words.now n one two three four

pub returns-clause-list : goal.returns-clause-list
returns-clause-list c = again_on c.unite_listed_cells.ensures.list c.label_frames.ensures.list
