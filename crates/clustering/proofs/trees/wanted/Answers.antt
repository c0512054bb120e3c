-- `wanted` meets its contract: the words are cut into slices once the cells are sorted, and put together again.
use Rattle.std.proofs.Common.{arith, refl, ap, ◌∙◌, ◌≡◌, [], ◌∷◌, ◌*◌, length}
use Rattle.lists.specs.Words.{part}
use Rattle.lists.proofs.PartLaws.{part_length}
use Rattle.counting_tree.specs.Ready.{at_frames}
use Rattle.core_cells.specs.HasTrees.{grid_part, trees_part, nodes_from}
use Rattle.clustering.proofs.PutBack.{Layers, in_whole, Fit, parts, together}
use Rattle.clustering.proofs.InWords.{as_parts, unchanged}
use Rattle.clustering.proofs.SortedIn.{few_cells, core_words, sorted_gone, listable, list_clear}
use Rattle.clustering.proofs.trees.wanted.Goals as goal

pub sort_cells-requires-clause-by_index : goal.sort_cells-requires-clause-by_index
sort_cells-requires-clause-by_index c = core_words c.args.frames.now.ready c.requires.0 c.requires.1

pub returns-then-has_border : goal.returns-then-has_border
returns-then-has_border c = unchanged c.args.work.now (few_cells c.args.frames.now.ready c.requires.0 c.requires.1) c.requires.1

pub returns-then-not-may_lack : goal.returns-then-not-may_lack
returns-then-not-may_lack c = unchanged c.args.work.now (few_cells c.args.frames.now.ready c.requires.0 c.requires.1) c.requires.1

pub asked_words-asked-requires-clause-cells : goal.asked_words-asked-requires-clause-cells
asked_words-asked-requires-clause-cells c =
    let g = c.split_at_mut-cells.ensures in
    let w = c.split_at_mut-words.ensures in
    let s = c.split_at_mut-sorted.ensures in
    listable c.args.frames.now.ready c.requires.0 c.requires.1 c.sort_cells.ensures g.front g.back w.back s.front s.back c.split_at_mut-list.ensures.back s.front_len

pub returns : goal.returns
returns c =
    let f = c.args.frames.now in
    let n = f.n in
    let k = c.args.k in
    let g = c.split_at_mut-cells.ensures in
    let w = c.split_at_mut-words.ensures in
    let s = c.split_at_mut-sorted.ensures in
    let x = c.split_at_mut-list.ensures in
    let few = few_cells f.ready c.requires.0 c.requires.1 in
    let W = c.asked_words-asked.new.words in
    let l : length W ≡ 4 * n = c.asked_words-asked.auto.words ∙ w.front_len in
    let a = part_length W 0 k (omega arith) in
    let b = part_length W (2 * n) (2 * n) (omega arith) in
    let ls : Layers = (0, 6 * n, part W 0 k) ∷ (2 * n, 8 * n, part W (2 * n) (2 * n)) ∷ [] in
    let fit : Fit n ls = (omega arith, omega (arith, few, a), (omega arith, omega (arith, b), tt)) in
    as_parts c.args.work.now few c.requires.1 _ _ a b (
    together (parts g.value w.value s.value x.value g.front_len w.front_len s.front_len x.front_len) ls fit c.asked_words-asked.ensures.words
    (c.asked_words-asked.ensures.list (list_clear f.ready c.requires.0 c.requires.1 c.sort_cells.ensures g.front g.back w.back s.front s.back x.back x.front x.front_len c.requires.2)) c.clear_words.ensures
    ∙ ap (in_whole ls) (sorted_gone f.ready c.requires.0 c.requires.1 c.sort_cells.ensures c.requires.2)
    )

pub invariant_of-cells : goal.invariant_of-cells
invariant_of-cells c = let f = c.args.frames.now in record { arranged = grid_part c.requires.0 (at_frames f.v f.n f.points.now) refl }

pub invariant_of-cells-else-not-may_lack : goal.invariant_of-cells-else-not-may_lack
invariant_of-cells-else-not-may_lack c = let f = c.args.frames.now in record { has_trees = trees_part c.requires.0 (at_frames f.v f.n f.points.now) refl (nodes_from c.args.work.now f.n) }
