-- Demand 3, in the words of document 01's paragraph "Labels and acceptance aside, ..": from frames and settings only, never from what a run has stored. Definitions only.
use Rattle.std.specs.Prelude.{◌≡◌, ◌↔◌, not, List, ℕ, ◌≤◌, ◌<◌, T, get_or, length}
use Rattle.lists.specs.Lists.{nonzero}
pub use Rattle.lists.specs.Chains.{Chain, alone, step}
use Rattle.hyperparams.specs.declared.ValidParams.{ValidParams}
use Rattle.counting_tree.specs.Frames.{Frame}
use Rattle.counting_tree.specs.Geometry.{Geometry, geometry_of, Nearer, FarReach}
use Rattle.cells_grid.specs.Cells.{same_cell, listed, core, count}
use Rattle.clustering.specs.Clusters.{none}

module _ (g : Geometry) where
  -- a core frame "of the run": "Core frames are those of module 3"
  pub record CoreFrame (p : ℕ) : Type 0 where
    pub inside : p < g.frames
    pub is_core : T (core g p)

  -- "A border frame is a non-core frame with a non-zero count in the tree of a listed core cell"; "a core cell is one that holds a core frame"
  pub record Border (q : ℕ) : Type 0 where
    pub inside : q < g.frames
    pub not_core : T (not (core g q))
    pub holder : ℕ
    pub holder_core : CoreFrame holder
    pub holder_listed : T (listed g q holder)
    pub counted : T (nonzero (count g q holder))

  -- "every other non-core frame is noise"
  pub record Noise (q : ℕ) : Type 0 where
    pub inside : q < g.frames
    pub not_core : T (not (core g q))
    pub no_border : Border q → ⊥

-- "every step stays in one cell or goes less than t into a listed cell"; "a step into a listed cell enters one on the list of the cell it leaves"
pub data NearStep (g : Geometry) (Near : ℕ → ℕ → Type 0) (p q : ℕ) : Type 0 where
  one_cell : T (same_cell g p q) → NearStep g Near p q
  into_listed : T (listed g p q) → Near p q → NearStep g Near p q

-- Near p q: frame q is nearer than t to p. Far p q: q is within the far reach of p.
module _ (g : Geometry) (Near Far : ℕ → ℕ → Type 0) where
  -- "a core frame within that same reach", whose label q has
  pub record Reached (labels : List ℕ) (q : ℕ) : Type 0 where
    pub frame : ℕ
    pub is_core : CoreFrame g frame
    pub within_reach : Far q frame
    pub same_label : get_or labels q 0 ≡ get_or labels frame 0

  -- all but the near-chain promise: what a run stopped early keeps
  pub record StoppedPromise (labels kinds : List ℕ) : Type 0 where
    -- a label and a kind for each frame; the slices may be longer
    pub labels_fit : g.frames ≤ length labels
    pub kinds_fit : g.frames ≤ length kinds
    -- "and they share one only if a chain of core frames joins them whose every step has a squared length below (t × (1 + slack))² + 1"
    pub far : (p q : ℕ) → CoreFrame g p → CoreFrame g q → get_or labels p 0 ≡ get_or labels q 0 → Chain (CoreFrame g) Far p q
    -- "Every border frame has the label of a core frame within that same reach"
    pub border : (q : ℕ) → Border g q → Reached labels q
    -- "and no noise frame has a core frame nearer than t in a listed cell"
    pub noise : (q p : ℕ) → Noise g q → CoreFrame g p → T (listed g q p) → Near q p → ⊥
    -- "65,535 for exactly the noise"
    pub unlabelled : (q : ℕ) → q < g.frames → (get_or labels q 0 ≡ none) ↔ Noise g q
    -- "the kind byte left is 2 for exactly the core frames, 1 for exactly the border frames, 0 for exactly the noise"
    pub kind_core : (q : ℕ) → q < g.frames → (get_or kinds q 0 ≡ 2) ↔ CoreFrame g q
    pub kind_border : (q : ℕ) → q < g.frames → (get_or kinds q 0 ≡ 1) ↔ Border g q
    pub kind_noise : (q : ℕ) → q < g.frames → (get_or kinds q 0 ≡ 0) ↔ Noise g q

  -- demand 3: "one statement on these slices after the run, not a law for each link"
  pub record PromiseOf (labels kinds : List ℕ) : Type 0 where
    -- "they share a label if a chain of core frames joins them whose every step stays in one cell or goes less than t into a listed cell"
    pub near : (p q : ℕ) → Chain (CoreFrame g) (NearStep g Near) p q → get_or labels p 0 ≡ get_or labels q 0
    -- and the rest of demand 3
    pub others : StoppedPromise labels kinds

-- demand 3 of the frames and settings of a run, with the factor of its lists
abbrev pub Promise : ℕ → ValidParams → List Frame → List ℕ → List ℕ → Type 0
Promise factor v fs labels kinds = PromiseOf (geometry_of factor v fs) (Nearer v fs) (FarReach v fs) labels kinds
