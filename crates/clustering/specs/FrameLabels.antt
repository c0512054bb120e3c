-- The words that say what a frame is found to be. Definitions only.
use Rattle.std.specs.Prelude.{ℕ}
use Rattle.clustering.specs.declared.labels.FrameLabel.{FrameLabel}
use Rattle.clustering.specs.declared.labels.FrameLabel.TheVariants.{Noise, Border, Core}
use Rattle.clustering.specs.Clusters.{none}

-- "65,535 for none"
abbrev pub label_word : FrameLabel → ℕ
label_word Noise = none
label_word (Border cluster) = cluster
label_word (Core cluster) = cluster

-- "a kind byte (0 noise, 1 border, 2 core)"
abbrev pub kind_word : FrameLabel → ℕ
kind_word Noise = 0
kind_word (Border cluster) = 1
kind_word (Core cluster) = 2
