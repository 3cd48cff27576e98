-- Events that are drawn one after the other.
use Rattle.std.proofs.Common.{◌≡◌, List, [], ◌++◌, ap, sym, ◌∙◌}
use Rattle.page_core.specs.Events.{Event}
use Rattle.page_core.specs.Pages.{PageValue, after}
use Rattle.page_core.proofs.Pages.{after-none, after-after}

-- some events were drawn, and others are left
pub left :
    (p q : PageValue) (es fs : List Event) → q ≡ after p es → after q fs ≡ after p (es ++ fs)
left p q es fs h = ap (λ (u : PageValue). after u fs) h ∙ after-after p es fs

pub joined :
    (p q r : PageValue) (es fs : List Event) →
    q ≡ after p es → r ≡ after q fs → r ≡ after p (es ++ fs)
joined p q r es fs h k = k ∙ left p q es fs h

-- no events are left
pub finished :
    (p first : PageValue) (all rest : List Event) →
    rest ≡ [] → after p rest ≡ after first all → p ≡ after first all
finished p first all rest none h = sym (after-none p) ∙ ap (after p) (sym none) ∙ h
