-- Whole groups, without the numbers of their rules.
use Rattle.std.proofs.Common.{◌≡◌, ◌↔◌, ℕ, zero, suc, ◌+◌, ◌-◌, Some, Result, Ok, Err, ◌<◌, ◌≤◌, ◌++◌, List, [], ◌∷◌}
use Rattle.std.proofs.Common.{Bool, true, false, cond, map, length, get_or, drop, IsTrue, refl, ap, sym, ◌∙◌, subst}
use Rattle.std.proofs.Common.{arith}
use mathlib.Core.Bool.{beq}
use Rattle.std.specs.Prelude.{IfOk, slice_get}
use Rattle.std.proofs.lemmas.List.{append-nil, at_drop_more}
use Rattle.std.specs.List.{AllByRecursion}
use Rattle.std.specs.Borrow.{Bor}
use Rattle.term_core.specs.Tree.{Tree}
use Rattle.term_core.specs.declared.memory.OutOfMemory.{OutOfMemory}
use Rattle.spec_core.specs.declared.records.Guard.{Guard}
use Rattle.spec_core.specs.declared.records.Rule.{Rule}
use Rattle.spec_core.specs.declared.records.Spec.{Spec}
use Rattle.spec_core.specs.Groups.{BeginsWith, bool_same, rest_if, wanting, Whole, alone, split}
use Rattle.coverage_check.specs.GroupTree.{IsRuleNumber, guards_of, numbered_guards}
use Rattle.coverage_check.specs.GuardLists.{lists_of, unnumbered, AreWhole, rest_before, rests_wanting}
use Rattle.coverage_check.proofs.Walks.{at_item, map_push_before}
use Rattle.term_core.proofs.Items.{drop_past}

-- the number of all guards
abbrev pub guard_count : List (List Guard) → ℕ
guard_count [] = 0
guard_count (list ∷ lists) = length list + guard_count lists

rest_few : (wanted : Bool) (list : List Guard) (lists : List (List Guard)) →
    guard_count (rest_before wanted list lists) ≤ length list + guard_count lists
rest_few wanted [] lists = omega arith
rest_few wanted (g ∷ gs) lists = by (bool_same wanted g.wanted)
  where
    by : (b : Bool) → guard_count (cond b (gs ∷ lists) lists) ≤ length (g ∷ gs) + guard_count lists
    by true = omega arith
    by false = omega arith

rests_few : (wanted : Bool) (lists : List (List Guard)) → guard_count (rests_wanting wanted lists) ≤ guard_count lists
rests_few wanted [] = omega arith
rests_few wanted (list ∷ lists) = omega (
  arith,
  rest_few wanted list (rests_wanting wanted lists),
  rests_few wanted lists,
)

first_falls : (b : Bool) (g : Guard) (gs : List Guard) (lists : List (List Guard)) (n : ℕ) →
    guard_count lists ≤ n → guard_count (cond b (gs ∷ lists) lists) < length (g ∷ gs) + n
first_falls true g gs lists n h = omega arith
first_falls false g gs lists n h = omega arith

-- the rests have fewer guards
pub rests_fall : (wanted : Bool) (g : Guard) (gs : List Guard) (lists : List (List Guard)) →
    guard_count (rests_wanting wanted ((g ∷ gs) ∷ lists)) < guard_count ((g ∷ gs) ∷ lists)
rests_fall wanted g gs lists = first_falls (bool_same wanted g.wanted) g gs (rests_wanting wanted lists)
    (guard_count lists) (rests_few wanted lists)

unnumbered_cond : (b : Bool) (m : ℕ × List Guard) (ms : List (ℕ × List Guard)) →
    unnumbered (cond b (m ∷ ms) ms) ≡ cond b (m.1 ∷ unnumbered ms) (unnumbered ms)
unnumbered_cond true m ms = refl
unnumbered_cond false m ms = refl

unnumbered_rest : (wanted : Bool) (k : ℕ) (gs : List Guard) (ms : List (ℕ × List Guard)) →
    unnumbered (rest_if wanted k gs ms) ≡ rest_before wanted gs (unnumbered ms)
unnumbered_rest wanted k [] ms = refl
unnumbered_rest wanted k (g ∷ gs) ms = unnumbered_cond (bool_same wanted g.wanted) (k, gs) ms

-- rests don't depend on numbers
pub unnumbered_wanting : (wanted : Bool) (ms : List (ℕ × List Guard)) →
    unnumbered (wanting wanted ms) ≡ rests_wanting wanted (unnumbered ms)
unnumbered_wanting wanted [] = refl
unnumbered_wanting wanted (m ∷ ms) = unnumbered_rest wanted m.0 m.1 (wanting wanted ms)
    ∙ ap (λ lists. rest_before wanted m.1 lists) (unnumbered_wanting wanted ms)

begin_same : (test : Tree) (ms ns : List (ℕ × List Guard)) → unnumbered ms ≡ unnumbered ns →
    AllByRecursion (λ (m : ℕ × List Guard). BeginsWith test m.1) ms →
    AllByRecursion (λ (m : ℕ × List Guard). BeginsWith test m.1) ns
begin_same test ms [] e h = tt
begin_same test [] (n ∷ ns) e h = absurd (let q : [] ≡ n.1 ∷ unnumbered ns = e in cc)
begin_same test (m ∷ ms) (n ∷ ns) e h =
    let q : m.1 ∷ unnumbered ms ≡ n.1 ∷ unnumbered ns = e in
    let one : m.1 ≡ n.1 = cc in
    let more : unnumbered ms ≡ unnumbered ns = cc in
    (subst (λ gs. BeginsWith test gs) one h.0, begin_same test ms ns more h.1)

cons_not_none : {X : Type 0} {x : X} {xs : List X} → x ∷ xs ≡ [] → ⊥
cons_not_none e = cc

same_rest : {X : Type 0} {x y : X} {xs ys : List X} → x ∷ xs ≡ y ∷ ys → xs ≡ ys
same_rest e = cc

alone_same : (ns : List (ℕ × List Guard)) → [] ∷ [] ≡ unnumbered ns → Whole ns
alone_same [] e = absurd (cons_not_none e)
alone_same (n ∷ []) e =
    let q : [] ∷ [] ≡ n.1 ∷ [] = e in
    let one : [] ≡ n.1 = cc in
    subst (λ (gs : List Guard). Whole ((n.0, gs) ∷ [])) one alone
alone_same (n ∷ (m ∷ ns)) e = absurd (let q : [] ∷ [] ≡ n.1 ∷ (m.1 ∷ unnumbered ns) = e in cc)

-- whether a group is whole doesn't depend on numbers
pub whole_same : {ms : List (ℕ × List Guard)} → Whole ms → (ns : List (ℕ × List Guard)) →
    unnumbered ms ≡ unnumbered ns → Whole ns
whole_same (alone {k}) ns e = alone_same ns e
whole_same (split {ms} test begins at_true at_false) ns e =
    let rests : (w : Bool) → unnumbered (wanting w ms) ≡ unnumbered (wanting w ns) = λ w. unnumbered_wanting w
    ms ∙ ap (λ lists. rests_wanting w lists) e ∙ sym (unnumbered_wanting w ns) in
    split test (begin_same test ms ns e begins) (whole_same at_true (wanting true ns) (rests true))
    (whole_same at_false (wanting false ns) (rests false))

abbrev pub zeroed : List (List Guard) → List (ℕ × List Guard)
zeroed lists = map (λ (gs : List Guard). (0, gs)) lists

pub unnumbered_zeroed : (lists : List (List Guard)) → unnumbered (zeroed lists) ≡ lists
unnumbered_zeroed [] = refl
unnumbered_zeroed (gs ∷ lists) = ap (λ ls. gs ∷ ls) (unnumbered_zeroed lists)

begin_unnumbered : (test : Tree) (ms : List (ℕ × List Guard)) →
    AllByRecursion (λ (m : ℕ × List Guard). BeginsWith test m.1) ms → AllByRecursion (BeginsWith test) (unnumbered ms)
begin_unnumbered test [] h = tt
begin_unnumbered test (m ∷ ms) h = (h.0, begin_unnumbered test ms h.1)

begin_zeroed : (test : Tree) (lists : List (List Guard)) → AllByRecursion (BeginsWith test) lists →
    AllByRecursion (λ (m : ℕ × List Guard). BeginsWith test m.1) (zeroed lists)
begin_zeroed test [] h = tt
begin_zeroed test (gs ∷ lists) h = (h.0, begin_zeroed test lists h.1)

zeroed_rests : (w : Bool) (ms : List (ℕ × List Guard)) (lists : List (List Guard)) → unnumbered ms ≡ lists →
    unnumbered (wanting w ms) ≡ unnumbered (zeroed (rests_wanting w lists))
zeroed_rests w ms lists e = unnumbered_wanting w ms ∙ ap (λ ls. rests_wanting w ls) e
    ∙ sym (unnumbered_zeroed (rests_wanting w lists))

-- lists that begin with one test are whole if their rests are
pub split_whole : (test : Tree) (lists : List (List Guard)) → AllByRecursion (BeginsWith test) lists →
    AreWhole (rests_wanting true lists) → AreWhole (rests_wanting false lists) → AreWhole lists
split_whole test lists begins at_true at_false =
    let e : (w : Bool) → unnumbered (zeroed (rests_wanting w lists)) ≡ unnumbered
    (wanting w (zeroed lists)) = λ w. sym (zeroed_rests w (zeroed lists) lists (unnumbered_zeroed lists)) in
    split test (begin_zeroed test lists begins) (whole_same at_true (wanting true (zeroed lists)) (e true))
    (whole_same at_false (wanting false (zeroed lists)) (e false))

-- what a whole group with a test consists of
abbrev pub Parts : Tree → List (List Guard) → Type 0
Parts test lists = AllByRecursion (BeginsWith test) lists × AreWhole (rests_wanting true lists)
    × AreWhole (rests_wanting false lists)

whole_parts : {ms : List (ℕ × List Guard)} → Whole ms →
    (g : Guard) (gs : List Guard) (lists : List (List Guard)) → unnumbered ms ≡ (g ∷ gs) ∷ lists →
    Parts g.test ((g ∷ gs) ∷ lists)
whole_parts (alone {k}) g gs lists e = absurd (let q : [] ∷ [] ≡ (g ∷ gs) ∷ lists = e in let r : [] ≡ g ∷ gs = cc in cc)
whole_parts (split {ms} test begins at_true at_false) g gs lists e =
    let all : AllByRecursion (BeginsWith test) ((g ∷ gs) ∷ lists) = subst
    (λ ls. AllByRecursion (BeginsWith test) ls) e (begin_unnumbered test ms begins) in (
      subst (λ t. AllByRecursion (BeginsWith t) ((g ∷ gs) ∷ lists)) (sym all.0) all,
      whole_same at_true _ (zeroed_rests true ms ((g ∷ gs) ∷ lists) e),
      whole_same at_false _ (zeroed_rests false ms ((g ∷ gs) ∷ lists) e),
    )

pub parts_of : (g : Guard) (gs : List Guard) (lists : List (List Guard)) → AreWhole ((g ∷ gs) ∷ lists) →
    Parts g.test ((g ∷ gs) ∷ lists)
parts_of g gs lists w = whole_parts w g gs lists (unnumbered_zeroed ((g ∷ gs) ∷ lists))

some_list : {ms : List (ℕ × List Guard)} → Whole ms → ms ≡ [] → ⊥
some_list (alone {k}) e = cons_not_none e
some_list (split {ms} test begins at_true at_false) e = some_list at_true (ap (λ ns. wanting true ns) e)

-- no guard lists are not whole
pub none_not_whole : AreWhole [] → ⊥
none_not_whole w = some_list w refl

lone : {ms : List (ℕ × List Guard)} → Whole ms → (lists : List (List Guard)) → unnumbered ms ≡ [] ∷ lists → lists ≡ []
lone (alone {k}) lists e = sym (same_rest e)
lone (split {ms} test begins at_true at_false) lists e =
    absurd (subst (λ ls. AllByRecursion (BeginsWith test) ls) e (begin_unnumbered test ms begins)).0

-- an empty list is whole if it is the only one
pub empty_alone : (lists : List (List Guard)) → (lists ≡ []) ↔ AreWhole ([] ∷ lists)
empty_alone lists = (
  λ e. subst (λ ls. AreWhole ([] ∷ ls)) (sym e) alone,
  λ w. lone w lists (unnumbered_zeroed ([] ∷ lists)),
)

pub begin_at : (test : Tree) (refs : List (Bor (List Guard))) (i : ℕ) (x : Bor (List Guard)) → i < length refs →
    x ≡ get_or refs i x →
    (AllByRecursion (BeginsWith test) (lists_of refs) ↔ AllByRecursion (BeginsWith test)
    (lists_of (drop i refs))) →
    AllByRecursion (BeginsWith test) (lists_of refs) ↔ (BeginsWith test x.now
    × AllByRecursion (BeginsWith test) (lists_of (drop (i + 1) refs)))
begin_at test refs i x h is kept =
    let e : drop i refs ≡ x ∷ drop (i + 1) refs = at_item refs i x h is in (
      λ a. subst (λ rs. AllByRecursion (BeginsWith test) (lists_of rs)) e (kept.0 a),
      λ b. kept.1 (subst (λ rs. AllByRecursion (BeginsWith test) (lists_of rs)) (sym e) b),
    )

same_wanted : (b : Bool) → bool_same b b ≡ true
same_wanted true = refl
same_wanted false = refl

other_wanted : (a b : Bool) → (b ≡ a → ⊥) → bool_same a b ≡ false
other_wanted true true h = absurd (h refl)
other_wanted true false h = refl
other_wanted false true h = refl
other_wanted false false h = absurd (h refl)

-- the rests so far with those to come, at a list that is taken or passed by
module _ (wanted : Bool) (refs made : List (Bor (List Guard))) (all : List (List Guard)) (i : ℕ)
    (x : Bor (List Guard)) (h : i < length refs) (is : x ≡ get_or refs i x) (kept : lists_of made
    ++ rests_wanting wanted (lists_of (drop i refs)) ≡ all) where
  here : lists_of made ++ rest_before wanted x.now (rests_wanting wanted (lists_of (drop (i + 1) refs))) ≡ all
  here = ap (λ rs. lists_of made ++ rests_wanting wanted (lists_of rs)) (sym (at_item refs i x h is)) ∙ kept

  pub taken : (g : Guard) (rest : Bor (List Guard)) (new : List (Bor (List Guard))) → x.now ≡ g ∷ rest.now →
      g.wanted ≡ wanted → new ≡ made ++ rest ∷ [] →
      lists_of new ++ rests_wanting wanted (lists_of (drop (i + 1) refs)) ≡ all
  taken g rest new e w n =
      let more = rests_wanting wanted (lists_of (drop (i + 1) refs)) in
      let same : bool_same wanted g.wanted ≡ true = ap (λ b. bool_same wanted b) w ∙ same_wanted wanted in
      let q : rest_before wanted x.now more ≡ rest.now ∷ more = ap (λ gs. rest_before wanted gs more) e
      ∙ ap (λ b. cond b (rest.now ∷ more) more) same in
      ap (λ ys. lists_of ys ++ more) n ∙ map_push_before (λ (r : Bor (List Guard)). r.now) made rest more
      ∙ ap (λ ls. lists_of made ++ ls) (sym q) ∙ here

  pub passed : (g : Guard) (gs : List Guard) → x.now ≡ g ∷ gs → (g.wanted ≡ wanted → ⊥) →
      lists_of made ++ rests_wanting wanted (lists_of (drop (i + 1) refs)) ≡ all
  passed g gs e w =
      let more = rests_wanting wanted (lists_of (drop (i + 1) refs)) in
      let q : rest_before wanted x.now more ≡ more = ap (λ ls. rest_before wanted ls more) e
      ∙ ap (λ b. cond b (gs ∷ more) more) (other_wanted wanted g.wanted w) in
      ap (λ ls. lists_of made ++ ls) (sym q) ∙ here

  pub empty_passed : x.now ≡ [] → lists_of made ++ rests_wanting wanted (lists_of (drop (i + 1) refs)) ≡ all
  empty_passed e = ap (λ ls. lists_of made
      ++ rest_before wanted ls (rests_wanting wanted (lists_of (drop (i + 1) refs)))) (sym e) ∙ here

pub same_by : (a b : Bool) → beq a b ≡ true → a ≡ b
same_by true true e = refl
same_by true false e = absurd (cc)
same_by false true e = absurd (cc)
same_by false false e = refl

pub other_by : (a b : Bool) → beq a b ≡ false → a ≡ b → ⊥
other_by true true e p = absurd (cc)
other_by true false e p = absurd (cc)
other_by false true e p = absurd (cc)
other_by false false e p = absurd (cc)

-- an empty list first
pub empty_case : (refs : List (Bor (List Guard))) (x : Bor (List Guard)) (others : List (Bor (List Guard))) →
    refs ≡ x ∷ others → x.now ≡ [] → (others ≡ []) ↔ AreWhole (lists_of refs)
empty_case refs x others e q =
    let same : lists_of refs ≡ [] ∷ lists_of others = ap (λ rs. lists_of rs) e ∙ ap (λ gs. gs ∷ lists_of others) q in
    let by = empty_alone (lists_of others) in (
      λ h. subst (λ ls. AreWhole ls) (sym same) (by.0 (ap (λ rs. lists_of rs) h)),
      λ w. none_of others (by.1 (subst (λ ls. AreWhole ls) same w)),
    )
  where
    none_of : (rs : List (Bor (List Guard))) → lists_of rs ≡ [] → rs ≡ []
    none_of [] h = refl
    none_of (r ∷ rs) h = absurd (cons_not_none h)

-- a list with a test first
module _ (refs : List (Bor (List Guard))) (x : Bor (List Guard)) (others : List (Bor (List Guard))) (g : Guard)
    (gs : List Guard) (e : refs ≡ x ∷ others) (q : x.now ≡ g ∷ gs) where
  same_lists : lists_of refs ≡ (g ∷ gs) ∷ lists_of others
  same_lists = ap (λ rs. lists_of rs) e ∙ ap (λ ls. ls ∷ lists_of others) q

  pub split_case : Parts g.test (lists_of refs) ↔ AreWhole (lists_of refs)
  split_case = (
    λ p. split_whole g.test (lists_of refs) p.0 p.1 p.2,
    λ w. subst (λ ls. Parts g.test ls) (sym same_lists)
        (parts_of g gs (lists_of others) (subst (λ ls. AreWhole ls) same_lists w)),
  )

  pub falls_case : (w : Bool) (made : List (Bor (List Guard))) →
      lists_of made ≡ rests_wanting w (lists_of refs) → guard_count (lists_of made) < guard_count (lists_of refs)
  falls_case w made m =
      let n : guard_count (lists_of made) ≡ guard_count (rests_wanting w ((g ∷ gs) ∷ lists_of others)) = ap
      (λ ls. guard_count ls) (m ∙ ap (λ ls. rests_wanting w ls) same_lists) in
      let k : guard_count (lists_of refs) ≡ guard_count ((g ∷ gs) ∷ lists_of others) = ap (λ ls. guard_count ls)
      same_lists in
      omega (arith, n, k, rests_fall w g gs (lists_of others))

pub iff_along : (r : Result Bool OutOfMemory) (A B : Type 0) → (A → B) → (B → A) → IfOk r (λ b. IsTrue b ↔ A) →
    IfOk r (λ b. IsTrue b ↔ B)
iff_along (Err e) A B f g h = tt
iff_along (Ok b) A B f g h = (λ p. f (h.0 p), λ q. h.1 (g q))

some_at : {X : Type 0} (xs : List X) (k : ℕ) (x : X) → k < length xs → x ≡ get_or xs k x → slice_get xs k ≡ Some x
some_at [] k x h e = absurd (omega arith)
some_at (y ∷ ys) zero x h e = ap (λ z. Some z) (sym e)
some_at (y ∷ ys) (suc k) x h e = some_at ys k x (omega arith) e

in_group : (P : ℕ → Type 0) (ns : List ℕ) (i : ℕ) → i < length ns → AllByRecursion P ns → P (get_or ns i 0)
in_group P [] i h a = absurd (omega arith)
in_group P (n ∷ ns) zero h a = a.0
in_group P (n ∷ ns) (suc i) h a = in_group P ns i (omega arith) a.1

pub rule_met : (spec : Spec) (group : List ℕ) (all : List (List Guard)) (i : ℕ) (rules : List Rule)
    (rule : Rule) (old new : List (Bor (List Guard))) (guards : Bor (List Guard)) → i < length group →
    AllByRecursion (IsRuleNumber spec) group → rules ≡ spec.rules →
    rule ≡ get_or rules (get_or group i 0 - 1) rule → guards.now ≡ rule.guards → new ≡ old ++ guards ∷ [] →
    lists_of old ++ unnumbered (numbered_guards spec (drop i group)) ≡ all →
    lists_of new ++ unnumbered (numbered_guards spec (drop (i + 1) group)) ≡ all
rule_met spec group all i rules rule old new guards h numbers same is gs n kept =
    let k = get_or group i 0 in
    let bound = in_group (IsRuleNumber spec) group i h numbers in
    let is_rule : rule ≡ get_or spec.rules (k - 1) rule = subst (λ rs. rule ≡ get_or rs (k - 1) rule) same is in
    let found : slice_get spec.rules (k - 1) ≡ Some rule = some_at spec.rules (k - 1) rule
    (omega (arith, bound.0, bound.1)) is_rule in
    let more = unnumbered (numbered_guards spec (drop (i + 1) group)) in
    let its : guards_of (slice_get spec.rules (k - 1)) ≡ guards.now = ap (λ o. guards_of o) found ∙ sym gs in
    let first : drop i group ≡ k ∷ drop (i + 1) group = at_drop_more (λ ys. ys) group i 0 h in
    ap (λ rs. lists_of rs ++ more) n
    ∙ map_push_before (λ (r : Bor (List Guard)). r.now) old guards more
    ∙ ap (λ ls. lists_of old ++ ls ∷ more) (sym its)
    ∙ ap (λ ns. lists_of old ++ unnumbered (numbered_guards spec ns)) (sym first)
    ∙ kept

-- the lists of all rules
pub all_met : (spec : Spec) (group : List ℕ) (i : ℕ) (made lists : List (Bor (List Guard))) → length group ≤ i →
    lists ≡ made → lists_of made ++ unnumbered (numbered_guards spec (drop i group)) ≡ unnumbered
    (numbered_guards spec group) → lists_of lists ≡ unnumbered (numbered_guards spec group)
all_met spec group i made lists h same kept =
    ap (λ rs. lists_of rs) same ∙ sym (append-nil (lists_of made))
    ∙ ap (λ ns. lists_of made ++ unnumbered (numbered_guards spec ns)) (sym (drop_past group i h)) ∙ kept

pub numbers_whole : (ms : List (ℕ × List Guard)) (lists : List (List Guard)) → lists ≡ unnumbered ms →
    AreWhole lists ↔ Whole ms
numbers_whole ms lists e = (
  λ w. whole_same w ms (unnumbered_zeroed lists ∙ e),
  λ w. whole_same w (zeroed lists) (sym e ∙ sym (unnumbered_zeroed lists)),
)
