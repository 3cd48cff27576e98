-- What is shown of the items of a list, item by item.
use Rattle.std.proofs.Common.{◌≡◌, ℕ, ◌+◌, ◌<◌, List, [], ◌∷◌, ◌++◌, refl, sym, ◌∙◌, ap, subst}
use Rattle.std.proofs.Common.{length, take, get_or, append_assoc}
use Rattle.std.proofs.Common.{flat_map}
use Rattle.std.proofs.lemmas.Grind.{flat_map-append}
use Rattle.std.proofs.lemmas.List.{append-nil}
use Rattle.term_core.proofs.Items.{taken_next}
use Rattle.page_core.specs.declared.parts.Part.{Part}
use Rattle.page_core.specs.Events.{Event, begins, ends, within}
use Rattle.page_core.specs.Pages.{PageValue, after}
use Rattle.page_core.proofs.Pages.{after-none, after-after}
use Rattle.report_pages.specs.Lists.{AreShown, Draws}

-- one item more is shown
shown_more :
    {X : Type 0} (P : List X → X → List Event → Type 0) (before xs : List X) (x : X)
    (events last : List Event) → AreShown P before xs events → P (before ++ xs) x last →
    AreShown P before (xs ++ x ∷ []) (events ++ last)
shown_more P before [] x events last none h =
    let here = subst (λ ys. P ys x last) (append-nil before) h in
    (last, [], here, refl, ap (λ es. es ++ last) none ∙ sym (append-nil last))
shown_more P before (y ∷ xs) x events last s h =
    let next = subst (λ ys. P ys x last) (sym (append_assoc before (y ∷ []) xs)) h in (
      s.0,
      s.1 ++ last,
      s.2,
      shown_more P (before ++ y ∷ []) xs x s.1 last s.3 next,
      ap (λ es. es ++ last) s.4 ∙ append_assoc s.0 s.1 last,
    )

-- before the first item nothing is drawn
pub none_drawn :
    {X : Type 0} (P : List X → X → List Event → Type 0) (xs : List X) (page : PageValue) →
    Draws page page (AreShown P [] (take 0 xs))
none_drawn P xs page = ([], refl, sym (after-none page))

-- the next item is drawn
pub next_drawn :
    {X : Type 0} (P : List X → X → List Event → Type 0) (xs : List X) (i : ℕ) (x : X) →
    i < length xs → x ≡ get_or xs i x → (first p q : PageValue) →
    Draws first p (AreShown P [] (take i xs)) → Draws p q (P (take i xs) x) →
    Draws first q (AreShown P [] (take (i + 1) xs))
next_drawn P xs i x lt is first p q d e = (
  d.0 ++ e.0,
  subst (λ ys. AreShown P [] ys (d.0 ++ e.0)) (sym (taken_next xs i x lt is))
      (shown_more P [] (take i xs) x d.0 e.0 d.1 e.1),
  e.2 ∙ ap (λ page. after page e.0) d.2 ∙ after-after first d.0 e.0,
)

-- some events are drawn, and others are left
pub left :
    (p q : PageValue) (es fs : List Event) → q ≡ after p es → after q fs ≡ after p (es ++ fs)
left p q es fs h = ap (λ page. after page fs) h ∙ after-after p es fs

-- some events are drawn, and then others
pub joined :
    (p q r : PageValue) (es fs : List Event) →
    q ≡ after p es → r ≡ after q fs → r ≡ after p (es ++ fs)
joined p q r es fs h k = k ∙ left p q es fs h

-- the events of the next item are drawn
pub each_more :
    {X : Type 0} (item : X → List Event) (xs : List X) (i : ℕ) (x : X) →
    i < length xs → x ≡ get_or xs i x → (p q r : PageValue) →
    q ≡ after p (flat_map item (take i xs)) → r ≡ after q (item x) →
    r ≡ after p (flat_map item (take (i + 1) xs))
each_more item xs i x lt is p q r h k =
    let more : flat_map item (take (i + 1) xs) ≡ flat_map item (take i xs) ++ item x =
    ap (flat_map item) (taken_next xs i x lt is)
    ∙ flat_map-append item (take i xs) (x ∷ [])
    ∙ ap (λ es. flat_map item (take i xs) ++ es) (append-nil (item x)) in
    joined p q r (flat_map item (take i xs)) (item x) h k ∙ ap (after p) (sym more)

-- a part is drawn with what it encloses
pub enclosed :
    (part : Part) (p q r s : PageValue) (es : List Event) →
    q ≡ after p (begins part ∷ []) → r ≡ after q es → s ≡ after r (ends part ∷ []) →
    s ≡ after p (within part es)
enclosed part p q r s es h k l =
    joined p q s (begins part ∷ []) (es ++ ends part ∷ []) h (joined q r s es (ends part ∷ []) k l)
