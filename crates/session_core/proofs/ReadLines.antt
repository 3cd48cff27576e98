-- The lines of a text of commands that are read so far.
use Rattle.std.proofs.Common.{◌≡◌, ℕ, ◌+◌, ◌≤◌, List, [], ◌∷◌, ◌++◌, refl, sym, ◌∙◌, ap, arith, length}
use Rattle.std.proofs.Common.{append_assoc, eqb-true, true, false}
use Rattle.std.specs.Prelude.{◌==◌, ◌≢◌, codes}
use Rattle.std.specs.List.{AllByRecursion, AllZip}
use Rattle.std.proofs.lemmas.Grind.{flat_map-append}
use Rattle.std.proofs.lemmas.List.{append-nil}
use Rattle.spec_core.specs.Sig.{Sig}
use Rattle.proof_script.specs.Faults.{IsOneLine, whole_lines}
use Rattle.session_core.specs.declared.commands.Command.{Command}
use Rattle.session_core.specs.CommandText.{Spells, SpellsSome, AreCommands, IsStuck, IsFaultyCommand}

-- a text of length 0 is empty, and no other one
pub is_empty : (xs : List ℕ) → (length xs == 0) ≡ true → xs ≡ []
is_empty [] e = refl
is_empty (x ∷ xs) e = absurd (let n = eqb-true (length (x ∷ xs)) 0 e in omega (arith, n))

pub not_empty : (xs : List ℕ) → (length xs == 0) ≡ false → xs ≢ []
not_empty xs e f = let q : false ≡ true = sym e ∙ ap (λ zs. length zs == 0) f in cc

module _ (sig : Sig) where
  abbrev SpellsLine : List ℕ → Command → Type 0
  SpellsLine line command = IsOneLine line × Spells sig line command

  abbrev IsSome : List ℕ → Type 0
  IsSome line = IsOneLine line × SpellsSome sig line

  -- lines that spell these commands come before the rest
  pub record HasRead (bytes rest : List ℕ) (commands : List Command) : Type 0 where
    pub lines : List (List ℕ)
    pub whole : bytes ≡ whole_lines lines ++ rest
    pub each : AllZip SpellsLine lines commands

  pub none_read : (bytes : List ℕ) → HasRead bytes bytes []
  none_read bytes = record { lines = []; whole = refl; each = tt }

  zip_more : (lines : List (List ℕ)) (commands : List Command) → AllZip SpellsLine lines commands →
      (line : List ℕ) (command : Command) → SpellsLine line command →
      AllZip SpellsLine (lines ++ line ∷ []) (commands ++ command ∷ [])
  zip_more [] [] h line command p = (p, tt)
  zip_more [] (c ∷ cs) h line command p = absurd h
  zip_more (l ∷ ls) [] h line command p = absurd h
  zip_more (l ∷ ls) (c ∷ cs) h line command p = (h.0, zip_more ls cs h.1 line command p)

  one_more : (bytes rest line after : List ℕ) (lines : List (List ℕ)) → bytes ≡ whole_lines lines ++ rest →
      rest ≡ (line ++ codes "\n") ++ after → bytes ≡ whole_lines (lines ++ line ∷ []) ++ after
  one_more bytes rest line after lines e f =
      let w : whole_lines (lines ++ line ∷ []) ≡ whole_lines lines ++ whole_lines (line ∷ []) =
      flat_map-append (λ l. l ++ codes "\n") lines (line ∷ []) in
      let n : whole_lines (line ∷ []) ≡ line ++ codes "\n" = append-nil (line ++ codes "\n") in
      e ∙ ap (λ r. whole_lines lines ++ r) f
      ∙ sym (append_assoc (whole_lines lines) (line ++ codes "\n") after)
      ∙ ap (λ t. (whole_lines lines ++ t) ++ after) (sym n)
      ∙ ap (λ t. t ++ after) (sym w)

  -- one line more is read
  pub more_read : (bytes rest : List ℕ) (commands : List Command) → HasRead bytes rest commands →
      (line after : List ℕ) (command : Command) → rest ≡ (line ++ codes "\n") ++ after → IsOneLine line →
      Spells sig line command → HasRead bytes after (commands ++ command ∷ [])
  more_read bytes rest commands h line after command e one spells = record {
    lines = h.lines ++ line ∷ [];
    whole = one_more bytes rest line after h.lines h.whole e;
    each = zip_more h.lines commands h.each line command (one, spells);
  }

  all_some : (lines : List (List ℕ)) (commands : List Command) → AllZip SpellsLine lines commands →
      AllByRecursion IsSome lines × (length lines ≡ length commands)
  all_some [] [] h = (tt, refl)
  all_some [] (c ∷ cs) h = absurd h
  all_some (l ∷ ls) [] h = absurd h
  all_some (l ∷ ls) (c ∷ cs) h = let r = all_some ls cs h.1 in (((h.0.0, (c, h.0.1)), r.0), omega (arith, r.1))

  -- all lines are read
  pub all_read : (bytes rest : List ℕ) (commands : List Command) → HasRead bytes rest commands → rest ≡ [] →
      length commands ≤ 100000 → AreCommands sig bytes commands
  all_read bytes rest commands h e few = record {
    lines = h.lines;
    whole = h.whole ∙ ap (λ r. whole_lines h.lines ++ r) e ∙ append-nil (whole_lines h.lines);
    each = h.each;
    few = few;
  }

  -- the line after those that are read is at fault
  pub stops : (bytes rest : List ℕ) (commands : List Command) → HasRead bytes rest commands →
      length commands ≤ 100000 → ((before : List (List ℕ)) → length before ≡ length commands →
      IsStuck sig before rest) → (number : ℕ) → number ≡ length commands + 1 → IsFaultyCommand sig bytes number
  stops bytes rest commands h few stuck number place =
      let s = all_some h.lines commands h.each in
      record {
        before = h.lines;
        rest = rest;
        whole = h.whole;
        each = s.0;
        few = omega (arith, few, s.1);
        place = omega (arith, place, s.1);
        stuck = stuck h.lines s.1;
      }
