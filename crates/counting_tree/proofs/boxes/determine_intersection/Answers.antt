-- The answer by the outcomes of the four tests.
use mathlib.Core.Path.{refl}
use mathlib.Core.Bool.{true, false}
use native.Mathlib.Omega.{arith}
use lib.ListN.{take}
use lib.Ieee.{of_bits, of_int}
use Rattle.counting_tree.specs.Grid.{half}
use Rattle.counting_tree.specs.Box.{corners, farthest}
use Rattle.counting_tree.proofs.Arrays.{farthest_is}
use Rattle.counting_tree.proofs.Answer.{radius_is, by_tests, centre_outside}
use Rattle.counting_tree.proofs.boxes.determine_intersection.Goals as goal

pub returns-then-d-h : goal.returns-then-d-h
returns-then-d-h c =
    let cs = take c.args.channels c.args.b.centre in
    let qs = take c.args.channels c.args.q in
    let h = radius_is c.args.channels c.args.b.side c.root_of_small.result c.half_side-h.result c.root_of_small.ensures.value c.half_side-h.ensures in
    by_tests c.args.channels c.args.t c.args.appx c.args.b.side cs qs c.distance-d.result c.half_side-h.result (half c.args.b.side) (farthest qs (corners cs (half c.args.b.side))) c.distance-d.ensures h refl refl true _ _ _ c.if-d-h.true refl refl refl

pub returns-then-d-h-2 : goal.returns-then-d-h-2
returns-then-d-h-2 c =
    let cs = take c.args.channels c.args.b.centre in
    let qs = take c.args.channels c.args.q in
    let h = radius_is c.args.channels c.args.b.side c.root_of_small.result c.half_side-h.result c.root_of_small.ensures.value c.half_side-h.ensures in
    by_tests c.args.channels c.args.t c.args.appx c.args.b.side cs qs c.distance-d.result c.half_side-h.result (half c.args.b.side) (farthest qs (corners cs (half c.args.b.side))) c.distance-d.ensures h refl refl false true _ _ c.if-d-h.false c.if-d-h-2.true refl refl

pub returns-then-d-e : goal.returns-then-d-e
returns-then-d-e c =
    let cs = take c.args.channels c.args.b.centre in
    let qs = take c.args.channels c.args.q in
    let h = radius_is c.args.channels c.args.b.side c.root_of_small.result c.half_side-h.result c.root_of_small.ensures.value c.half_side-h.ensures in
    by_tests c.args.channels c.args.t c.args.appx c.args.b.side cs qs c.distance-d.result c.half_side-h.result c.half_side-e.result (farthest qs (corners cs (half c.args.b.side))) c.distance-d.ensures h c.half_side-e.ensures refl false false true _ c.if-d-h.false c.if-d-h-2.false c.if-d-e.true refl

pub returns-then-e : goal.returns-then-e
unfolding of_bits of_int
returns-then-e c =
    let cs = take c.args.channels c.args.b.centre in
    let qs = take c.args.channels c.args.q in
    let h = radius_is c.args.channels c.args.b.side c.root_of_small.result c.half_side-h.result c.root_of_small.ensures.value c.half_side-h.ensures in
    let f = centre_outside c.args.channels c.args.appx c.args.b.side c.distance-d.result c.half_side-e.result c.args.b.centre c.args.q c.well_formed.0.1.1.0.0 c.well_formed.1.0.0 c.well_formed.0.1.1.0.1.1 c.well_formed.1.0.1.1 c.well_formed.1.1.1.1.0.1 c.distance-d.ensures c.half_side-e.ensures c.if-appx-d.true c.if-e.true in
    by_tests c.args.channels c.args.t c.args.appx c.args.b.side cs qs c.distance-d.result c.half_side-h.result c.half_side-e.result (farthest qs (corners cs (half c.args.b.side))) c.distance-d.ensures h c.half_side-e.ensures refl false false false false c.if-d-h.false c.if-d-h-2.false c.if-d-e.false f

pub returns-then-farthest_corner-appx : goal.returns-then-farthest_corner-appx
returns-then-farthest_corner-appx c =
    let cs = take c.args.channels c.args.b.centre in
    let qs = take c.args.channels c.args.q in
    let h = radius_is c.args.channels c.args.b.side c.root_of_small.result c.half_side-h.result c.root_of_small.ensures.value c.half_side-h.ensures in
    let n = c.well_formed.0.1.1.0.1.0.1 in
    let w = farthest_is c.args.channels qs c.args.b.centre (half c.args.b.side) c.farthest_corner.result c.get_corners-all.result (omega arith) (omega (arith, n)) c.get_corners-all.ensures c.farthest_corner.ensures in
    by_tests c.args.channels c.args.t c.args.appx c.args.b.side cs qs c.distance-d.result c.half_side-h.result c.half_side-e.result c.farthest_corner.result c.distance-d.ensures h c.half_side-e.ensures w false false false true c.if-d-h.false c.if-d-h-2.false c.if-d-e.false c.if-farthest_corner-appx.true

pub returns-else-farthest_corner-appx : goal.returns-else-farthest_corner-appx
returns-else-farthest_corner-appx c =
    let cs = take c.args.channels c.args.b.centre in
    let qs = take c.args.channels c.args.q in
    let h = radius_is c.args.channels c.args.b.side c.root_of_small.result c.half_side-h.result c.root_of_small.ensures.value c.half_side-h.ensures in
    let n = c.well_formed.0.1.1.0.1.0.1 in
    let w = farthest_is c.args.channels qs c.args.b.centre (half c.args.b.side) c.farthest_corner.result c.get_corners-all.result (omega arith) (omega (arith, n)) c.get_corners-all.ensures c.farthest_corner.ensures in
    by_tests c.args.channels c.args.t c.args.appx c.args.b.side cs qs c.distance-d.result c.half_side-h.result c.half_side-e.result c.farthest_corner.result c.distance-d.ensures h c.half_side-e.ensures w false false false false c.if-d-h.false c.if-d-h-2.false c.if-d-e.false c.if-farthest_corner-appx.false
