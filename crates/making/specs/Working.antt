-- Working a pattern out, from the bytes that it is written in. Assumes nothing.
--   Workable s at m room       a pattern stands at the place, and there is room for the tables of m words that it needs
--   WorkableTwo                the same of a node's two parts
--   over k p q                 the pattern of a node over two parts
--   Done column c p n k t      p fits into n, and t is its finished table of k rows
--   DoneSays, WorkedSays       so for the pattern, or it doesn't fit; for every pattern that stands at the place
--   TwoSays                    for the node over every two patterns that stand there, one behind the other
--   AnywhereSays               for every pattern that stands at the place, searched anywhere
--   Sides, Ordered             of two parts the one that needs more tables is worked out first
use Rattle.std.specs.Prelude.{◌≡◌, ℕ, ◌*◌, ◌<◌, ◌≤◌, List, Some, None, Option}
use Rattle.machines.specs.Inside.{Inside}
use Rattle.patterns.specs.Patterns.{Pattern, seq}
use Rattle.patterns.specs.Promises.{PatternAt}
use Rattle.patterns.specs.Searching.{anywhere}
use Rattle.patterns.specs.Sizes.{Fits}
use Rattle.plans.specs.Strahler.{higher, strahler}
use Rattle.parts.specs.Combining.{joined_pattern}
use Rattle.parts.specs.Steps.{Finished}
use Rattle.making.specs.declared.binary.Binary.{Binary}
use Rattle.making.specs.declared.binary.Binary.TheVariants.{Followed, Connected}
use Rattle.making.specs.declared.order.Order.{Order}
use Rattle.making.specs.declared.order.Order.TheVariants.{Written, Turned}

pub record Workable (s : List ℕ) (at m room : ℕ) : Type 0 where
  pub pattern : Pattern
  pub stop : ℕ
  pub here : PatternAt s at pattern stop
  pub tables : strahler pattern * m ≤ room

abbrev pub over : Binary → Pattern → Pattern → Pattern
over Followed p q = seq p q
over (Connected j) p q = joined_pattern j p q

pub record WorkableTwo (s : List ℕ) (next m room : ℕ) : Type 0 where
  pub left : Pattern
  pub right : Pattern
  pub mid : ℕ
  pub stop : ℕ
  pub first : PatternAt s next left mid
  pub second : PatternAt s mid right stop
  pub tables : higher (strahler left) (strahler right) * m ≤ room

pub record Done (column : ℕ → ℕ) (c : ℕ) (p : Pattern) (n k : ℕ) (t : List ℕ) : Type 0 where
  pub fits : Fits n p
  pub few : k ≤ n
  pub inside : Inside c k t
  pub finished : Finished column p k t

abbrev pub DoneSays : (ℕ → ℕ) → ℕ → Pattern → ℕ → List ℕ → Option ℕ → Type 0
DoneSays column c p n t None = Fits n p → ⊥
DoneSays column c p n t (Some k) = Done column c p n k t

abbrev pub WorkedSays : (ℕ → ℕ) → ℕ → List ℕ → ℕ → ℕ → List ℕ → Option ℕ → Type 0
WorkedSays column c s at n t r = (p : Pattern) (stop : ℕ) → PatternAt s at p stop → DoneSays column c p n t r

abbrev pub TwoSays : (ℕ → ℕ) → ℕ → List ℕ → Binary → ℕ → ℕ → List ℕ → Option ℕ → Type 0
TwoSays column c s m next n t r = (p q : Pattern) (mid stop : ℕ) → PatternAt s next p mid → PatternAt s mid q stop → DoneSays column c (over m p q) n t r

abbrev pub AnywhereSays : (ℕ → ℕ) → ℕ → List ℕ → ℕ → ℕ → List ℕ → Option ℕ → Type 0
AnywhereSays column c s at n t r = (p : Pattern) (stop : ℕ) → PatternAt s at p stop → DoneSays column c (anywhere p) n t r

abbrev pub Sides : Order → ℕ → ℕ → ℕ → ℕ → Pattern → Pattern → Type 0
Sides Written next mid one other p q = (one ≡ next) × (other ≡ mid) × (strahler q ≤ strahler p)
Sides Turned next mid one other p q = (one ≡ mid) × (other ≡ next) × (strahler p < strahler q)

abbrev pub Ordered : List ℕ → ℕ → ℕ → ℕ → Order → Type 0
Ordered s next one other order = (p q : Pattern) (mid stop : ℕ) → PatternAt s next p mid → PatternAt s mid q stop → Sides order next mid one other p q
