-- What the calls ensure. Assumes nothing.
use Rattle.std.specs.Prelude.{◌≡◌, ℕ, ◌+◌, ◌<◌, ◌≤◌, Bool, true, List, [], length, take, drop, Some, None, Option, Ok, Err, Result, ⊤}
use Rattle.std.proofs.Math.Option.{some}
use Rattle.machines.specs.Words.{Word}
use Rattle.machines.specs.Classes.{nth}
use Rattle.patterns.specs.declared.node.Node.{Node}
use Rattle.patterns.specs.declared.list.Patterns.{Patterns}
use Rattle.patterns.specs.declared.direct.SearchError.{SearchError}
use Rattle.patterns.specs.declared.direct.SearchError.TheVariants.{NoList, Full}
use Rattle.patterns.specs.Patterns.{Pattern, seq, star, matches}
use Rattle.patterns.specs.Meanings.{Meaning}
use Rattle.patterns.specs.Lists.{write, write_list, sound, sound_list, ListOf, OneList, Stands}
use Rattle.patterns.specs.Nodes.{node_bytes, node_sound}
use Rattle.patterns.specs.Searching.{anywhere, ends, ends_along}

-- reading one node: the one that stands at the place, or there is none
pub record NodeAt (s : List ℕ) (at : ℕ) (n : Node) : Type 0 where
  pub stands : Stands s at (node_bytes n) (at + length (node_bytes n))
  pub sounds : node_sound n ≡ true

abbrev pub NodeRead : List ℕ → ℕ → Option Node → Type 0
NodeRead s at (Some n) = NodeAt s at n
NodeRead s at None = (n : Node) → NodeAt s at n → ⊥

-- reading one pattern: where the one that begins at the place ends, or there is none
pub record PatternAt (s : List ℕ) (at : ℕ) (p : Pattern) (stop : ℕ) : Type 0 where
  pub stands : Stands s at (write p) stop
  pub sounds : sound p ≡ true

abbrev pub PatternRead : List ℕ → ℕ → Option ℕ → Type 0
PatternRead s at (Some stop) = (p : Pattern) × PatternAt s at p stop
PatternRead s at None = (p : Pattern) (stop : ℕ) → PatternAt s at p stop → ⊥

-- what a recursion over a pattern is given: one that stands there
pub record SomePattern (s : List ℕ) (at : ℕ) : Type 0 where
  pub pattern : Pattern
  pub stop : ℕ
  pub here : PatternAt s at pattern stop

-- what a walk over a list's patterns is given: patterns that stand one behind the other from a place to the end
pub record SomePatterns (s : List ℕ) (at : ℕ) : Type 0 where
  pub patterns : List Pattern
  pub stand : Stands s at (write_list patterns) (length s)
  pub sounds : sound_list patterns ≡ true

-- a step of it: the place where a pattern begins, and on to where it ends; at the end of the list none
abbrev pub Passed : List ℕ → ℕ → Option ℕ → ℕ → Type 0
Passed s at (Some x) next = (at < length s) × (x ≡ at) × ((p : Pattern) (stop : ℕ) → PatternAt s at p stop → next ≡ stop)
Passed s at None next = (length s ≤ at) × (next ≡ at)

pub record PatternPassed (i : Patterns) (r : Option ℕ) (j : Patterns) : Type 0 where
  pub list : j.list.now ≡ i.list.now
  pub says : Passed i.list.now i.at r j.at

-- deciding by definition whether what stands there matches a word: itself, with what stands further on behind it, or
-- repeated
abbrev pub MatchesAt : List ℕ → ℕ → Word → Bool → Type 0
MatchesAt s at w r = (p : Pattern) (stop : ℕ) → PatternAt s at p stop → r ≡ matches p w

abbrev pub SequenceMatches : List ℕ → ℕ → ℕ → Word → Bool → Type 0
SequenceMatches s first second w r = (p q : Pattern) (stop end : ℕ) → PatternAt s first p stop → PatternAt s second q end → r ≡ matches (seq p q) w

abbrev pub StarMatches : List ℕ → ℕ → Word → Bool → Type 0
StarMatches s at w r = (p : Pattern) (stop : ℕ) → PatternAt s at p stop → r ≡ matches (star p) w

-- reading a list: the bytes are the list of so many patterns, and of no others; or they are no list
abbrev pub Listed : List ℕ → Option ℕ → Type 0
Listed s (Some k) = (ps : List Pattern) × ListOf s ps × (length ps ≡ k)
Listed s None = (ps : List Pattern) → ListOf s ps → ⊥

pub record ListRead (s : List ℕ) (r : Option ℕ) : Type 0 where
  pub says : Listed s r
  pub only : OneList

pub record SomeList (s : List ℕ) : Type 0 where
  pub patterns : List Pattern
  pub here : ListOf s patterns

-- deciding by definition which patterns end after a text
abbrev pub EndsAt : List ℕ → ℕ → Word → Bool → Type 0
EndsAt s at w r = (p : Pattern) (stop : ℕ) → PatternAt s at p stop → r ≡ matches (anywhere p) w

abbrev pub BitsAfter : List ℕ → Word → ℕ → Type 0
BitsAfter s w r = (ps : List Pattern) → ListOf s ps → r ≡ ends ps w

-- does the pattern with this number in the list match the word
abbrev pub Matched : List ℕ → ℕ → Word → Option Bool → Type 0
Matched s i w (Some b) = (ps : List Pattern) × (p : Pattern) × ListOf s ps × (nth ps i ≡ some p) × (b ≡ matches p w)
Matched s i w None = (ps : List Pattern) (p : Pattern) → ListOf s ps → nth ps i ≡ some p → ⊥

pub record MatchedPost (s : List ℕ) (i : ℕ) (w : Word) (r : Option Bool) : Type 0 where
  pub says : Matched s i w r
  pub meaning : Meaning

-- searching by definition: the bits after each byte; a refusal writes nothing, and what lies behind the text's stays
abbrev pub SearchedSays : List ℕ → Word → List ℕ → List ℕ → Result ⊤ SearchError → Type 0
SearchedSays s w o o' (Ok done) = (ps : List Pattern) × ListOf s ps × (take (length w) o' ≡ ends_along ps [] w) × (drop (length w) o' ≡ drop (length w) o)
SearchedSays s w o o' (Err NoList) = ((ps : List Pattern) → ListOf s ps → ⊥) × (o' ≡ o)
SearchedSays s w o o' (Err Full) = ((ps : List Pattern) × ListOf s ps) × (length o < length w) × (o' ≡ o)

pub record SearchedPost (s : List ℕ) (w : Word) (o o' : List ℕ) (r : Result ⊤ SearchError) : Type 0 where
  pub says : SearchedSays s w o o' r
  pub meaning : Meaning
