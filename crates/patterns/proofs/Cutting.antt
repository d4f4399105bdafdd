-- What a sequence and a repetition match: by the places where a word is cut, and by words. Assumes nothing.
use Rattle.std.proofs.Common.{◌≡◌, ℕ, zero, suc, ◌<◌, ◌≤◌, Bool, true, false, ◌&&◌, ◌||◌, List, [], ◌∷◌, ◌++◌, length, take, drop, sym, refl, ap, ◌∙◌, ⊎_elim, arith, length-append, take-append-drop, length-take}
use mathlib.Core.Bool.{false≢true}
use Rattle.std.proofs.lemmas.List.{take_at, drop_at, length-drop}
use Rattle.std.proofs.lemmas.Bool.{and_parts, and_from, or_cases, or_from, or_left, or_right, cases_eq, cases_Bool}
use Rattle.machines.specs.Words.{Word, joined}
use Rattle.patterns.specs.Patterns.{Pattern, star, null, cut, cut_on, many, matches}
use Rattle.patterns.specs.Meanings.{All, Meaning}

-- by places
module _ (f g : Word → Bool) (w : Word) where
  abbrev pub Here : ℕ → Bool
  Here k = f (take k w) && g (drop k w)

  pub cut_some : (n k : ℕ) → k ≤ n → Here k ≡ true → cut f g n w ≡ true
  cut_some zero zero l h = h
  cut_some zero (suc k) l h = absurd (omega arith)
  cut_some (suc n) k l h = ⊎_elim
      (λ (e : k ≡ suc n). or_left (Here (suc n)) (cut f g n w) (sym (ap Here e) ∙ h))
      (λ (ne : k ≡ suc n → ⊥). or_right (Here (suc n)) (cut f g n w) (cut_some n k (omega arith) h))
      (cases_eq k (suc n))

  pub cut_none : (n : ℕ) → ((k : ℕ) → k ≤ n → Here k ≡ false) → cut f g n w ≡ false
  cut_none zero h = h 0 (omega arith)
  cut_none (suc n) h = or_from (Here (suc n)) (cut f g n w) (h (suc n) (omega arith)) (cut_none n (λ k l. h k (omega arith)))

  pub cut_on_some : (n k : ℕ) → 0 < k → k ≤ n → Here k ≡ true → cut_on f g n w ≡ true
  cut_on_some zero k pos l h = absurd (omega arith)
  cut_on_some (suc n) k pos l h = ⊎_elim
      (λ (e : k ≡ suc n). or_left (Here (suc n)) (cut_on f g n w) (sym (ap Here e) ∙ h))
      (λ (ne : k ≡ suc n → ⊥). or_right (Here (suc n)) (cut_on f g n w) (cut_on_some n k pos (omega arith) h))
      (cases_eq k (suc n))

  pub cut_on_none : (n : ℕ) → ((k : ℕ) → 0 < k → k ≤ n → Here k ≡ false) → cut_on f g n w ≡ false
  cut_on_none zero h = refl
  cut_on_none (suc n) h = or_from (Here (suc n)) (cut_on f g n w) (h (suc n) (omega arith) (omega arith)) (cut_on_none n (λ k pos l. h k pos (omega arith)))

-- by words: a front in f, the rest in g
abbrev pub Cut : (Word → Bool) → (Word → Bool) → Word → Type 0
Cut f g w = (u : Word) × (v : Word) × (u ++ v ≡ w) × (f u ≡ true) × (g v ≡ true)

module _ (f g : Word → Bool) where
  pub cut_words : (n : ℕ) (w : Word) → cut f g n w ≡ true → Cut f g w
  cut_words zero w h = let s = and_parts (f []) (g w) h in ([], w, refl, s.0, s.1)
  cut_words (suc n) w h = ⊎_elim
      (λ a. let s = and_parts (f (take (suc n) w)) (g (drop (suc n) w)) a in (take (suc n) w, drop (suc n) w, take-append-drop (suc n) w, s.0, s.1))
      (λ b. cut_words n w b)
      (or_cases (f (take (suc n) w) && g (drop (suc n) w)) (cut f g n w) h)

  -- a word that is put together is cut where it was put together
  here_joined : (u v : Word) → f u ≡ true → g v ≡ true → Here f g (u ++ v) (length u) ≡ true
  here_joined u v a b = and_from _ _ (ap f (take_at u v (length u) refl) ∙ a) (ap g (drop_at u v (length u) refl) ∙ b)

  pub words_cut : (w : Word) → Cut f g w → cut f g (length w) w ≡ true
  words_cut w (u, v, e, a, b) = rw (← e) (cut_some f g (u ++ v) (length (u ++ v)) (length u) (omega (arith, length-append u v)) (here_joined u v a b))

  pub cut_on_words : (n : ℕ) (w : Word) → n ≤ length w → cut_on f g n w ≡ true → (u : Word) × (v : Word) × (u ++ v ≡ w) × (0 < length u) × (f u ≡ true) × (g v ≡ true)
  cut_on_words zero w le h = absurd (false≢true h)
  cut_on_words (suc n) w le h = ⊎_elim
      (λ a. let s = and_parts (f (take (suc n) w)) (g (drop (suc n) w)) a in (take (suc n) w, drop (suc n) w, take-append-drop (suc n) w, omega (arith, length-take (suc n) w), s.0, s.1))
      (λ b. cut_on_words n w (omega arith) b)
      (or_cases (f (take (suc n) w) && g (drop (suc n) w)) (cut_on f g n w) h)

  pub words_cut_on : (u v : Word) → 0 < length u → f u ≡ true → g v ≡ true → cut_on f g (length (u ++ v)) (u ++ v) ≡ true
  words_cut_on u v pos a b = cut_on_some f g (u ++ v) (length (u ++ v)) (length u) pos (omega (arith, length-append u v)) (here_joined u v a b)

-- any number of parts in f, none of them empty
pub data Many (f : Word → Bool) : Word → Type 0 where
  done : Many f []
  more : {u v w : Word} → u ++ v ≡ w → 0 < length u → f u ≡ true → Many f v → Many f w

module _ (f : Word → Bool) where
  pub many_words : (d : ℕ) (w : Word) → many f d w ≡ true → Many f w
  many_words zero [] h = done
  many_words zero (x ∷ w) h = absurd (false≢true h)
  many_words (suc d) [] h = done
  many_words (suc d) (x ∷ w) h = let c = cut_on_words f (many f d) (length (x ∷ w)) (x ∷ w) (omega arith) h in more c.2 c.3 c.4 (many_words d c.1 c.5)

  pub words_many : (d : ℕ) (w : Word) → Many f w → length w ≤ d → many f d w ≡ true
  words_many zero w done le = refl
  words_many (suc d) w done le = refl
  words_many zero w (more {u} {v} e pos a m) le = absurd (omega (arith, length-append u v, ap length e))
  words_many (suc d) w (more {u} {v} e pos a m) le =
      let long = length-append u v in
      let same = ap length e in
      or_right (null w) (cut_on f (many f d) (length w) w) (rw (← e) (words_cut_on f (many f d) u v pos a (words_many d v m (omega arith))))

  -- as many parts as there are bytes are enough
  pub many_enough : (d : ℕ) (w : Word) → length w ≤ d → many f d w ≡ many f (length w) w
  many_enough d w le = ⊎_elim
      (λ t. t ∙ sym (words_many (length w) w (many_words d w t) (omega arith)))
      (λ n. ⊎_elim (λ t. absurd (false≢true (sym n ∙ words_many d w (many_words (length w) w t) le))) (λ m. n ∙ sym m) (cases_Bool (many f (length w) w)))
      (cases_Bool (many f d w))

  -- parts, empty ones among them
  pub many_listed : {w : Word} → Many f w → (ws : List Word) × (joined ws ≡ w) × All (λ u. f u ≡ true) ws
  many_listed done = ([], refl, tt)
  many_listed (more {u} {v} {w} e pos a m) = let l = many_listed m in (u ∷ l.0, ap (λ r. u ++ r) l.1 ∙ e, (a, l.2))

  pub listed_many : (ws : List Word) → All (λ u. f u ≡ true) ws → Many f (joined ws)
  listed_many [] h = done
  listed_many ([] ∷ ws) (a, h) = listed_many ws h
  listed_many ((x ∷ u) ∷ ws) (a, h) = more refl (omega arith) a (listed_many ws h)

pub meaning : Meaning
meaning = record {
  sequence = λ p q w. (cut_words (matches p) (matches q) (length w) w, words_cut (matches p) (matches q) w);
  repetition = λ p w. (
    λ h. many_listed (matches p) (many_words (matches p) (length w) w h),
    λ (ws, e, h). rw (← e) (words_many (matches p) (length (joined ws)) (joined ws) (listed_many (matches p) ws h) (omega arith)),
  );
}

-- a repetition one part at a time, by places
module _ (p : Pattern) (w : Word) where
  -- the first part has k bytes, and the rest is again a repetition
  abbrev pub Part : ℕ → Bool
  Part k = matches p (take k w) && matches (star p) (drop k w)

  rest_enough : (d k : ℕ) → 0 < k → length w ≤ suc d → many (matches p) d (drop k w) ≡ matches (star p) (drop k w)
  rest_enough d k pos l = many_enough (matches p) d (drop k w) (simp length-drop (omega arith))

  pub star_empty : length w ≡ 0 → true ≡ matches (star p) w
  star_empty e = go w e
    where
      go : (w : Word) → length w ≡ 0 → true ≡ matches (star p) w
      go [] e = refl
      go (x ∷ w) e = absurd (omega arith)

  as_fuel : (d k : ℕ) → length w ≡ suc d → 0 < k → Here (matches p) (many (matches p) d) w k ≡ Part k
  as_fuel d k e pos = ap (λ b. matches p (take k w) && b) (rest_enough d k pos (omega arith))

  star_step : (d : ℕ) → length w ≡ suc d → matches (star p) w ≡ cut_on (matches p) (many (matches p) d) (length w) w
  star_step d e = ap (λ n. many (matches p) n w) e ∙ not_null w (omega arith)
    where
      not_null : (v : Word) → 0 < length v → (null v || cut_on (matches p) (many (matches p) d) (length w) w) ≡ cut_on (matches p) (many (matches p) d) (length w) w
      not_null [] h = absurd (omega arith)
      not_null (x ∷ v) h = refl

  pub star_some : (k : ℕ) → 0 < k → k ≤ length w → Part k ≡ true → true ≡ matches (star p) w
  star_some k pos l h = sym (go (length w) refl)
    where
      go : (n : ℕ) → length w ≡ n → matches (star p) w ≡ true
      go zero e = absurd (omega arith)
      go (suc d) e = star_step d e ∙ cut_on_some (matches p) (many (matches p) d) w (length w) k pos l (as_fuel d k e pos ∙ h)

  pub star_none : 0 < length w → ((k : ℕ) → 0 < k → k ≤ length w → Part k ≡ false) → false ≡ matches (star p) w
  star_none some h = sym (go (length w) refl)
    where
      go : (n : ℕ) → length w ≡ n → matches (star p) w ≡ false
      go zero e = absurd (omega arith)
      go (suc d) e = star_step d e ∙ cut_on_none (matches p) (many (matches p) d) w (length w) (λ k pos l. as_fuel d k e pos ∙ h k pos l)
