-- The words of a line, one after the other.
use Rattle.std.proofs.Common.{◌≡◌, ℕ, List, [], ◌∷◌, ◌++◌, refl, ap, sym, ◌∙◌, codes}
use Rattle.std.proofs.Common.{map, Bool, true, false, length, ◌≤◌, arith}
use Rattle.std.proofs.lemmas.Bool.Decides.{nat_tests}
use Rattle.std.specs.Prelude.{◌==◌}
use Rattle.term_core.specs.Tree.{Tree}
use Rattle.proof_script.proofs.Runs.{true_false}
use Rattle.std.specs.List.{AllByRecursion}
use Rattle.spec_core.specs.Sig.{Sig}
use Rattle.proof_script.specs.Delimiters.{Ends}
use Rattle.proof_script.specs.Words.{Word, fixed, name, number, variable, equation, place, side, term, terms, patterns}
use Rattle.proof_script.specs.Words.{word_text}
use Rattle.proof_script.specs.Standing.{WordStands}
use Rattle.proof_script.specs.LineWords.{IsWordAt, AreWords}
use Rattle.proof_script.proofs.TermReads.{NamesDiffer}
use Rattle.proof_script.proofs.WordReads.{Sound, kind_of, word_reads, words_reads, words_text}
use Rattle.proof_script.proofs.Lists.{same_tail, cons_nil}

-- no fixed word
abbrev pub Varies : Word → Type 0
Varies (fixed text) = ⊥
Varies _ = Unit {0}

pub sound : (sig : Sig) (w : Word) → Varies w → WordStands sig w → Sound sig w
sound sig (fixed text) v h = absurd v
sound sig (name text) v h = h
sound sig (number n) v h = h
sound sig (variable n) v h = h
sound sig (equation conclusion n) v h = h
sound sig (place p) v h = h
sound sig (side left) v h = h
sound sig (term t) v h = h
sound sig (terms ts) v h = h
sound sig (patterns ps) v h = h

module _ (sig : Sig) where
  pub text_ends : (ws : List Word) → Ends (words_text sig ws)
  text_ends [] = tt
  text_ends (w ∷ ws) = refl

  -- the first word, and what follows it
  pub front : (bytes : List ℕ) (w : Word) (ws : List Word) → AreWords sig bytes (w ∷ ws) →
      IsWordAt sig bytes w (words_text sig ws)
  front bytes w ws h = record { stands = h.stand.0; is = h.is; ends = text_ends ws }

  -- the words after the first one, if that was read
  pub behind : NamesDiffer sig → (bytes : List ℕ) (v : Word) (rest : List ℕ) (w : Word) (ws : List Word) →
      kind_of v ≡ kind_of w → Varies v → Varies w → IsWordAt sig bytes v rest → AreWords sig bytes (w ∷ ws) →
      (v ≡ w) × AreWords sig rest ws
  behind d bytes v rest w ws k x y h l =
      let one = word_reads sig d v w rest (words_text sig ws) k (sound sig v x h.stands)
      (sound sig w y l.stand.0) h.ends (text_ends ws) (same_tail (sym h.is ∙ l.is)) in
      (one.0, record { stand = l.stand.1; is = one.1 })

  -- no words are there if the first one isn't
  pub none_front :
      (bytes : List ℕ) (w : Word) (ws : List Word) → ((rest : List ℕ) → IsWordAt sig bytes w rest → ⊥) →
      AreWords sig bytes (w ∷ ws) → ⊥
  none_front bytes w ws never l = never (words_text sig ws) (front bytes w ws l)

  -- nor if the others don't follow the first one
  pub none_behind :
      NamesDiffer sig → (bytes : List ℕ) (v : Word) (rest : List ℕ) (w : Word) (ws : List Word) →
      kind_of v ≡ kind_of w → Varies v → Varies w → IsWordAt sig bytes v rest → (AreWords sig rest ws → ⊥) →
      AreWords sig bytes (w ∷ ws) → ⊥
  none_behind d bytes v rest w ws k x y h never l = never (behind d bytes v rest w ws k x y h l).1

  sounds : (ws : List Word) → AllByRecursion Varies ws → AllByRecursion (WordStands sig) ws →
      AllByRecursion (Sound sig) ws
  sounds [] v h = tt
  sounds (w ∷ ws) v h = (sound sig w v.0 h.0, sounds ws v.1 h.1)

  -- words of the same kinds with the same text are the same
  pub one_words : NamesDiffer sig → (bytes : List ℕ) (ws vs : List Word) → map kind_of ws ≡ map kind_of vs →
      AllByRecursion Varies ws → AllByRecursion Varies vs → AreWords sig bytes ws → AreWords sig bytes vs → ws ≡ vs
  one_words d bytes ws vs k x y h l = (words_reads sig d ws vs [] [] k (sounds ws x h.stand)
      (sounds vs y l.stand) (ap (λ z. z ++ (10 ∷ [])) (sym h.is ∙ l.is))).0

  pub joined : (bytes : List ℕ) (w : Word) (rest : List ℕ) (ws : List Word) → IsWordAt sig bytes w rest →
      AreWords sig rest ws → AreWords sig bytes (w ∷ ws)
  joined bytes w rest ws h l = record {
    stand = (h.stands, l.stand);
    is = h.is
        ∙ ap (λ z. codes " " ++ (word_text sig w ++ z)) l.is;
  }

  pub no_more : (rest : List ℕ) → rest ≡ [] → AreWords sig rest []
  no_more rest e = record { stand = tt; is = e }

pub empty_is : (xs : List ℕ) → true ≡ (length xs == 0) → xs ≡ []
empty_is [] e = refl
empty_is (x ∷ xs) e = absurd (let n : length (x ∷ xs) ≡ 0 = grind (arith, nat_tests, sym e) in omega (arith, n))

pub not_empty : (xs : List ℕ) (b : Bool) → b ≡ (length xs == 0) → b ≡ false → xs ≡ [] → ⊥
not_empty xs b y x e = true_false (sym (y ∙ ap (λ (z : List ℕ). length z == 0) e) ∙ x)

pub some_terms : (ts : List Tree) (b : Bool) → (ts ≡ [] → b ≡ true) → b ≡ false → 1 ≤ length ts
some_terms [] b f e = absurd (true_false (sym (f refl) ∙ e))
some_terms (t ∷ ts) b f e = omega arith

pub few_terms : (ts : List Tree) → ts ≡ [] → 1 ≤ length ts → ⊥
few_terms [] e n = omega (arith, n)
few_terms (t ∷ ts) e n = cons_nil e
