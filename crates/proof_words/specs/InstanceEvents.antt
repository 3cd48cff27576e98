-- What stands for the variables of a clause that a step refers to, as texts of a page.
use Rattle.std.specs.Prelude.{ℕ, List, [], ◌∷◌, None, codes, slice_get}
use Rattle.term_core.specs.Tree.{Tree}
use Rattle.spec_core.specs.Sig.{Sig}
use Rattle.spec_core.specs.TermText.{variable_text}
use Rattle.page_core.specs.Events.{Event}
use Rattle.proof_words.specs.ListEvents.{plain, separated}
use Rattle.proof_words.specs.TermEvents.{side_events}

module _ (sig : Sig) (names referred : List (List ℕ)) where
  -- `x := t` for the variable of this number: its name is among those of the clause that is
  -- referred to, the term has the names of the clause that refers to it
  abbrev pub assignment_events : ℕ → Tree → List Event
  assignment_events number t =
      plain (variable_text (slice_get referred number) number)
      ∷ plain (codes " := ")
      ∷ side_events sig names None t

  -- these words, and an assignment for each variable
  abbrev pub instance_events : List ℕ → List Tree → List Event
  instance_events words [] = []
  instance_events words (t ∷ ts) = plain words ∷ separated (codes ", ") assignment_events (t ∷ ts)
