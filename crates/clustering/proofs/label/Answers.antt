-- `label` meets its contract: the words are cut into slices once the cells are sorted, and put together again.
use Rattle.std.proofs.Common.{arith, ap, ◌∙◌, [], ◌∷◌, ◌*◌}
use Rattle.lists.specs.Words.{column}
use Rattle.lists.specs.ListLaws.{length_numbers}
use Rattle.counting_tree.specs.Given.{geometry}
use Rattle.clustering.specs.Clusters.{place, clusters, label_by, kind_of}
use Rattle.clustering.specs.Uniting.{lowest_at}
use Rattle.clustering.specs.Numbering.{cluster_word}
use Rattle.clustering.proofs.PutBack.{Layers, in_whole, Fit, parts, together}
use Rattle.clustering.proofs.SortedIn.{few_cells, core_words, sorted_gone, listable, list_clear}
use Rattle.clustering.proofs.label.Goals as goal

pub sort_cells-requires-clause-by_index : goal.sort_cells-requires-clause-by_index
sort_cells-requires-clause-by_index c = core_words c.args.frames.now.ready c.requires.0 c.requires.1

pub label_words-m-requires-clause-cells : goal.label_words-m-requires-clause-cells
label_words-m-requires-clause-cells c =
    let g = c.split_at_mut-cells.ensures in
    let w = c.split_at_mut-words.ensures in
    let s = c.split_at_mut-sorted.ensures in
    listable c.args.frames.now.ready c.requires.0 c.requires.1 c.sort_cells.ensures g.front g.back w.back s.front s.back c.split_at_mut-list.ensures.back s.front_len

pub returns-clause-work_after : goal.returns-clause-work_after
returns-clause-work_after c =
    let f = c.args.frames.now in
    let n = f.n in
    let k = c.args.k in
    let low = lowest_at (geometry f) (n * n) in
    let label = label_by (geometry f) (λ i. place i (clusters (geometry f))) in
    let ls : Layers = (0, 6 * n, column low k) ∷ (n, 7 * n, column (cluster_word (geometry f)) k) ∷ (2 * n, 8 * n, column label n) ∷ (3 * n, 9 * n, column (kind_of (geometry f)) n) ∷ [] in
    let few = few_cells f.ready c.requires.0 c.requires.1 in
    let fit : Fit n ls = (
      omega arith,
      omega (arith, few, length_numbers low k),
      (omega arith, omega (arith, few, length_numbers (cluster_word (geometry f)) k), (omega arith, omega (arith, length_numbers label n), (omega arith, omega (arith, length_numbers (kind_of (geometry f)) n), tt))),
    ) in
    let g = c.split_at_mut-cells.ensures in
    let w = c.split_at_mut-words.ensures in
    let s = c.split_at_mut-sorted.ensures in
    let x = c.split_at_mut-list.ensures in
    together (parts g.value w.value s.value x.value g.front_len w.front_len s.front_len x.front_len) ls fit c.label_words-m.ensures.words (c.label_words-m.ensures.list (list_clear f.ready c.requires.0 c.requires.1 c.sort_cells.ensures g.front g.back w.back s.front s.back x.back x.front x.front_len c.requires.2)) c.clear_words.ensures
    ∙ ap (in_whole ls) (sorted_gone f.ready c.requires.0 c.requires.1 c.sort_cells.ensures c.requires.2)
