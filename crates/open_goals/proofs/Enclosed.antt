-- A part is drawn with what it encloses.
use Rattle.std.proofs.Common.{◌≡◌, List, [], ◌∷◌, ◌++◌}
use Rattle.page_core.specs.declared.parts.Part.{Part}
use Rattle.page_core.specs.Events.{Event, begins, ends, within}
use Rattle.page_core.specs.Pages.{PageValue, after}
use Rattle.proof_words.proofs.Joined.{joined}

pub enclosed :
    (part : Part) (p q r s : PageValue) (es : List Event) →
    q ≡ after p (begins part ∷ []) → r ≡ after q es → s ≡ after r (ends part ∷ []) →
    s ≡ after p (within part es)
enclosed part p q r s es h k l =
    joined p q s (begins part ∷ []) (es ++ ends part ∷ []) h (joined q r s es (ends part ∷ []) k l)
