-- The frames are sorted. Both ways write the same, and then the sorted frames are cleared.
use mathlib.Core.Path.{◌≡◌, sym, ap, ◌∙◌}
use mathlib.Core.List.{List}
use Prim.Native.Nat.{ℕ}
use native.Mathlib.Omega.{arith}
use lib.ListN.{length, replicate}
use Rattle.lists.specs.ListLaws.{length_numbers}
use Rattle.lists.specs.Words.{column}
use Rattle.counting_tree.specs.Given.{geometry}
use Rattle.counting_tree.specs.Ready.{at_frames}
use Rattle.cells_grid.specs.Arrangement.{core_bit}
use Rattle.cells_grid.proofs.SharedBuckets.{ends_rise}
use Rattle.cells_grid.proofs.Core.{label_sort, label_length, label_arranged, label_sorted, label_clear, label_end}
use Rattle.cells_grid.proofs.Cut.{cells_arranged, told_clear, sorted_slice, put_together}
use Rattle.cells_grid.proofs.label_frames.Goals as goal
use Rattle.cells_grid.proofs.label_frames.Goals.{then-sparse, else-sparse}

pub sort_frames-requires : goal.sort_frames-requires
sort_frames-requires c = let t = label_sort c.args.work.now (c.args.frames.now.ready, c.requires.0, c.requires.1, c.requires.2) in (t.1, t.2)

pub invariant_of-grid : goal.invariant_of-grid
invariant_of-grid c =
    let f = c.args.frames.now in
    record { arranged = cells_arranged c.sort_frames.new.work f.n (omega (arith, label_length c.args.work.now (c.args.frames.now.ready, c.requires.0, c.requires.1, c.requires.2) c.sort_frames.ensures, c.requires.1)) c.split_at_mut-low.result.0.now c.split_at_mut-cells.result.0.now c.split_at_mut-low.ensures.front c.split_at_mut-cells.ensures.front (at_frames f.v f.n f.points.now) (label_arranged c.args.work.now (c.args.frames.now.ready, c.requires.0, c.requires.1, c.requires.2) c.sort_frames.ensures) }

pub invariant_of-sorted : goal.invariant_of-sorted
invariant_of-sorted c =
    let f = c.args.frames.now in
    record { by_block = sorted_slice c.sort_frames.new.work f.n (omega (arith, label_length c.args.work.now (c.args.frames.now.ready, c.requires.0, c.requires.1, c.requires.2) c.sort_frames.ensures, c.requires.1)) c.split_at_mut-low.result.1.now c.split_at_mut-low.ensures.back c.split_at_mut-told.result.1.now c.split_at_mut-told.ensures.back (label_sorted c.args.work.now (c.args.frames.now.ready, c.requires.0, c.requires.1, c.requires.2) c.sort_frames.ensures) }

pub sparse-requires-clause-by_index : goal.sparse-requires-clause-by_index
sparse-requires-clause-by_index c =
    let f = c.args.frames.now in
    ends_rise (sorted_slice c.sort_frames.new.work f.n (omega (arith, label_length c.args.work.now (c.args.frames.now.ready, c.requires.0, c.requires.1, c.requires.2) c.sort_frames.ensures, c.requires.1)) c.split_at_mut-low.result.1.now c.split_at_mut-low.ensures.back c.split_at_mut-told.result.1.now c.split_at_mut-told.ensures.back (label_sorted c.args.work.now (c.args.frames.now.ready, c.requires.0, c.requires.1, c.requires.2) c.sort_frames.ensures))

pub label_by_pairs-requires : goal.label_by_pairs-requires
label_by_pairs-requires c =
    told_clear c.sort_frames.new.work c.args.frames.now.n (omega (arith, label_length c.args.work.now (c.args.frames.now.ready, c.requires.0, c.requires.1, c.requires.2) c.sort_frames.ensures, c.requires.1)) c.split_at_mut-low.result.1.now c.split_at_mut-low.ensures.back c.split_at_mut-told.result.0.now c.split_at_mut-told.ensures.front (label_clear c.args.work.now (c.args.frames.now.ready, c.requires.0, c.requires.1, c.requires.2) c.sort_frames.ensures)

pub returns : goal.returns
returns c =
    let f = c.args.frames.now in let h = c.sort_frames.new.work in let high = c.split_at_mut-low.result.1.now in let told = c.split_at_mut-told.result.0.now in
    let D : List ℕ = column (core_bit (geometry f)) f.n in
    let d : length D ≡ f.n = length_numbers (core_bit (geometry f)) f.n in
    let is_told : c.if-sparse.told ≡ D = elim c.if-sparse.branch [ then-sparse w ↦ w.told-is ∙ w.label_by_pairs.ensures | else-sparse w ↦ w.told-is ∙ w.label_by_search.ensures ] in
    let zeros : c.fill.new.self ≡ replicate f.n 0 = c.fill.ensures.after (λ y h. h) ∙ ap (λ (x : ℕ). replicate x 0) (ap length is_told ∙ d) in
    c.clear_words.ensures ∙ label_end c.args.work.now (c.args.frames.now.ready, c.requires.0, c.requires.1, c.requires.2) c.sort_frames.ensures
    (put_together h c.split_at_mut-low.result.0.now high c.split_at_mut-cells.result.0.now c.split_at_mut-cells.result.1.now told c.split_at_mut-told.result.1.now f.n
    c.split_at_mut-low.ensures.front_len c.split_at_mut-low.ensures.value c.split_at_mut-told.ensures.value c.split_at_mut-cells.ensures.front c.split_at_mut-cells.ensures.back
    D d (c.copy.ensures ∙ is_told)
    (zeros ∙ sym (told_clear h f.n (omega (arith, label_length c.args.work.now (c.args.frames.now.ready, c.requires.0, c.requires.1, c.requires.2) c.sort_frames.ensures, c.requires.1)) high c.split_at_mut-low.ensures.back told c.split_at_mut-told.ensures.front (label_clear c.args.work.now (c.args.frames.now.ready, c.requires.0, c.requires.1, c.requires.2) c.sort_frames.ensures))))
