-- `count_node` and `count_list` meet their contracts, by the words of the trees.
use Rattle.std.proofs.Common.{ap, ◌∙◌, ◌-◌, ◌*◌, sym, length, drop, get_or, length-take, length-drop, arith}
use Rattle.std.proofs.lemmas.Bool.{eqb-true, eqb-false}
use Rattle.tree_structure.specs.Encode.{told_of}
use Rattle.tree_structure.proofs.Counting.{tree_fit, tree_room, tree_count, tree_size, tree_some, tree_first, tree_below, box_read, children_of, split, none_left, first_told, others_told, told_node, on_disjoint, on_covered, on_last, on_inner}
use Rattle.tree_structure.proofs.+count_list_count_node.Goals as goal

-- ---- a node
pub count_node-read-node-requires : goal.count_node-read-node-requires
count_node-read-node-requires t c = tree_room c.requires.tree.1

pub count_node-classify-requires : goal.count_node-classify-requires
count_node-classify-requires t c =
    let l = c.args.level.now in
    (record { level = l.level; depth = omega (arith, l.bound); is = l.side_is }, c.requires.ready, omega (arith, c.read-node.ensures.first, tree_below c.requires.tree.1))

pub count_node-returns-in-Disjoint : goal.count_node-returns-in-Disjoint
count_node-returns-in-Disjoint t c = λ xs u.
    let b = box_read c.args.level.now c.args.q u c.read-node.ensures.first c.in-Disjoint.ensures in
    ap told_of (on_disjoint _ _ _ _ xs b)

pub count_node-returns-in-FullyCovered : goal.count_node-returns-in-FullyCovered
count_node-returns-in-FullyCovered t c = λ xs u.
    let r = c.read-node.ensures in
    let b = box_read c.args.level.now c.args.q u r.first c.in-FullyCovered.ensures in
    told_node xs u.node.some (r.count ∙ tree_count u) (r.first ∙ tree_first u) ∙ ap told_of (on_covered _ _ _ _ xs b)

pub count_node-returns-then-level-eq0 : goal.count_node-returns-then-level-eq0
count_node-returns-then-level-eq0 t c = λ xs u.
    let r = c.read-node.ensures in
    let b = box_read c.args.level.now c.args.q u r.first c.in-Intersecting.ensures in
    told_node xs u.node.some (r.count ∙ tree_count u) (r.first ∙ tree_first u) ∙ ap told_of (on_last _ _ _ _ xs c.if-level-eq0.true b)

pub count_node-slice_bounds-children-count : goal.count_node-slice_bounds-children-count
count_node-slice_bounds-children-count t c = omega (arith, c.read-node.ensures.size, tree_size c.requires.tree.1, tree_some c.requires.tree.1)

pub count_node-slice_bounds-children-end : goal.count_node-slice_bounds-children-end
count_node-slice_bounds-children-end t c = omega (arith, c.read-node.ensures.size, tree_size c.requires.tree.1, tree_fit c.requires.tree.1)

pub count_node-slice_bounds-children-start : goal.count_node-slice_bounds-children-start
count_node-slice_bounds-children-start t c = omega (arith, c.read-node.ensures.size, tree_size c.requires.tree.1, tree_some c.requires.tree.1, tree_fit c.requires.tree.1)

pub count_node-count_list-requires : goal.count_node-count_list-requires
count_node-count_list-requires t c =
    let p = c.requires.tree in
    let e = c.below-below.ensures in
    let ws = c.args.tree.now in (
      omega (arith, c.decreases, e.2, c.if-level-eq0.false, c.read-node.ensures.size, tree_size p.1, tree_fit p.1, length-take (4 * c.read-node.result.size - 4) (drop 4 ws), length-drop 4 ws),
      (rw e.0 c.requires.ready, (_, children_of c.args.level.now c.below-below.result e.0 e.1 e.2 p.1 c.if-level-eq0.false c.read-node.ensures.size)),
    )

pub count_node-returns-else-level-eq0 : goal.count_node-returns-else-level-eq0
count_node-returns-else-level-eq0 t c = λ xs u.
    let e = c.below-below.ensures in
    let b = box_read c.args.level.now c.args.q u c.read-node.ensures.first c.in-Intersecting.ensures in
    let m = children_of c.args.level.now c.below-below.result e.0 e.1 e.2 u c.if-level-eq0.false c.read-node.ensures.size in
    let told = c.count_list.ensures _ m in
    on_inner _ _ _ _ xs c.if-level-eq0.false b (rw (e.0, e.1, e.2) at told)

-- ---- the siblings
pub count_list-returns-then-is_empty : goal.count_list-returns-then-is_empty
count_list-returns-then-is_empty t c = λ gs u. none_left _ u (eqb-true _ _ (sym c.is_empty.ensures ∙ c.if-is_empty.true))

pub count_list-count_node-found-requires : goal.count_list-count_node-found-requires
count_list-count_node-found-requires t c =
    let z = split c.requires.trees.1 (eqb-false _ _ (sym c.is_empty.ensures ∙ c.if-is_empty.false)) in
    (omega (arith, c.decreases, tree_room z.tree), (c.requires.ready, (z.first, z.tree)))

pub count_list-returns-then-is_some : goal.count_list-returns-then-is_some
count_list-returns-then-is_some t c = λ gs u.
    let z = split u (eqb-false _ _ (sym c.is_empty.ensures ∙ c.if-is_empty.false)) in
    first_told _ z.is (c.count_node-found.ensures z.first z.tree) (sym c.is_some.ensures ∙ c.if-is_some.true)

pub count_list-others-requires : goal.count_list-others-requires
count_list-others-requires t c =
    let z = split c.requires.trees.1 (eqb-false _ _ (sym c.is_empty.ensures ∙ c.if-is_empty.false)) in
    (tree_room z.tree, omega (arith, tree_size z.tree, tree_fit z.tree))

pub count_list-count_list-requires : goal.count_list-count_list-requires
count_list-count_list-requires t c =
    let z = split c.requires.trees.1 (eqb-false _ _ (sym c.is_empty.ensures ∙ c.if-is_empty.false)) in
    (omega (arith, c.decreases, ap length c.others.ensures, length-drop (4 * get_or c.args.trees.now 1 0) c.args.trees.now, tree_size z.tree, tree_some z.tree, tree_room z.tree), (c.requires.ready, rw c.others.ensures (z.others, z.trees)))

pub count_list-returns : goal.count_list-returns
count_list-returns t c = λ gs u.
    let z = split u (eqb-false _ _ (sym c.is_empty.ensures ∙ c.if-is_empty.false)) in
    others_told _ z.is (c.count_node-found.ensures z.first z.tree) (sym c.is_some.ensures ∙ c.if-is_some.false) (rw c.others.ensures at c.count_list.ensures z.others z.trees)
