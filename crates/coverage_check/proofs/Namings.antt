-- What is named is missing, and it is one.
use Rattle.std.proofs.Common.{◌≡◌, ℕ, ◌<◌, ◌≤◌, List, [], ◌∷◌, ◌++◌, Some, ◌⊎◌, inl, inr, length, refl, ap, sym, ◌∙◌}
use Rattle.std.proofs.Common.{subst, arith}
use Rattle.std.proofs.lemmas.Bool.{cases_lt}
use Rattle.term_core.specs.Tree.{Tree, Trees, app, none, some, trees_of, list_of}
use Rattle.term_core.specs.declared.ids.SortId.{SortId}
use Rattle.spec_core.specs.declared.records.SymInfo.{SymInfo}
use Rattle.spec_core.specs.Sig.{Sig, info_of, IsConstructor}
use Rattle.spec_core.proofs.SmallValues.{small_least, smalls_least, one_small, ones_small}
use Rattle.coverage_check.specs.Values.{AreValues, IsMissing}
use Rattle.coverage_check.specs.Admits.{SomeAdmits}
use Rattle.coverage_check.specs.Opened.{rests, opened}
use Rattle.coverage_check.specs.Named.{IsFirstOpen, IsNamed, no_sorts, no_rows, all_variables, first_constructor}
use Rattle.coverage_check.specs.Decisions.{IsUnadmitted}
use Rattle.coverage_check.proofs.Admitted.{some_admits}
use Rattle.coverage_check.proofs.Joined.{values_split}
use Rattle.coverage_check.proofs.OpenedRows.{opened_admits}
use Rattle.term_core.proofs.Trees.{list_of-trees_of}

-- values that some row admits are, without their first, admitted by some rest
rests_admit : (v : Tree) (vs : List Tree) (rows : List (List Tree)) → SomeAdmits rows (v ∷ vs) →
    SomeAdmits (rests rows) vs
rests_admit v vs [] a = a
rests_admit v vs ([] ∷ rows) (inl a) = absurd a
rests_admit v vs ([] ∷ rows) (inr a) = inr (rests_admit v vs rows a)
rests_admit v vs ((p ∷ ps) ∷ rows) (inl a) = inl a.1
rests_admit v vs ((p ∷ ps) ∷ rows) (inr a) = inr (rests_admit v vs rows a)

module _ (sig : Sig) where
  -- values with the constructor before them
  pub closed : (c : ℕ) (i : SymInfo) (s : SortId) (ss : List SortId) (firsts : Trees) (rest : List Tree) →
      IsConstructor sig c → info_of sig c ≡ Some i → i.result ≡ s → length (list_of firsts) ≡ length i.args →
      AreValues sig (i.args ++ ss) (list_of firsts ++ rest) → AreValues sig (s ∷ ss) (app c firsts ∷ rest)
  closed c i s ss firsts rest b at r n v =
      let p = values_split sig firsts rest i.args ss n v in
      (((i, at, r, p.0), p.2.0), ((b, p.1), p.2.1))

  pub named_unadmitted : {rows : List (List Tree)} {sorts : List SortId} {vs : List Tree} →
      IsNamed sig rows sorts vs → IsUnadmitted sig rows sorts vs
  named_unadmitted no_sorts = ((tt, tt), λ a. a)
  named_unadmitted (no_rows {s} {ss} {vs} small) =
      let r = smalls_least sig (trees_of vs) (s ∷ ss) small in
      ((r.0, r.1), λ a. a)
  named_unadmitted (all_variables {rows} {s} {ss} {v} {vs} some_row begin small more) =
      let one = small_least sig v s small in
      let r = named_unadmitted more in
      (((one.0.0, r.0.0), (one.0.1, r.0.1)), λ a. r.1 (rests_admit v vs rows a))
  named_unadmitted (first_constructor {rows} {s} {ss} {firsts} {rest} c i first n more) =
      let r = named_unadmitted more in (
        closed c i s ss firsts rest first.constructor first.info first.result n r.0,
        λ a. r.1 (opened_admits c (length i.args) firsts rest rows n a),
      )

  pub named_missing : {rows : List (List Tree)} {sorts : List SortId} {vs : List Tree} →
      IsNamed sig rows sorts vs → IsMissing sig rows sorts vs
  named_missing {rows} {sorts} {vs} n = let r = named_unadmitted n in (r.0, λ m. r.1 (some_admits rows vs m))

  -- a smaller constructor under which values are missing is no later one
  not_before : (rows : List (List Tree)) (s : SortId) (ss : List SortId) (c d : ℕ) (i : SymInfo) (ts : Trees)
      (us : List Tree) → IsFirstOpen sig rows s ss d i → IsUnadmitted sig rows (s ∷ ss) (app c ts ∷ us) → c < d → ⊥
  not_before rows s ss c d i ts us first u h = u.1 (first.before c h ts us u.0)

  one_first : (rows : List (List Tree)) (s : SortId) (ss : List SortId) (c d : ℕ) (i j : SymInfo)
      (ts us : Trees) (vs ws : List Tree) → IsFirstOpen sig rows s ss c i → IsFirstOpen sig rows s ss d j →
      IsUnadmitted sig rows (s ∷ ss) (app c ts ∷ vs) → IsUnadmitted sig rows (s ∷ ss) (app d us ∷ ws) → c ≡ d
  one_first rows s ss c d i j ts us vs ws p q u w = by (cases_lt c d) (cases_lt d c)
    where
      by : (c < d) ⊎ (d ≤ c) → (d < c) ⊎ (c ≤ d) → c ≡ d
      by (inl h) _ = absurd (not_before rows s ss c d j ts vs q u h)
      by (inr h) (inl k) = absurd (not_before rows s ss d c i us ws p w k)
      by (inr h) (inr k) = omega arith

  -- lists that are joined of parts of the same length
  same_parts : (ts us : Trees) (vs ws : List Tree) → length (list_of ts) ≡ length (list_of us) →
      list_of ts ++ vs ≡ list_of us ++ ws → (ts ≡ us) × (vs ≡ ws)
  same_parts none none vs ws n e = (refl, e)
  same_parts none (some u us) vs ws n e = absurd (omega arith)
  same_parts (some t ts) none vs ws n e = absurd (omega arith)
  same_parts (some t ts) (some u us) vs ws n e =
      let q : t ∷ (list_of ts ++ vs) ≡ u ∷ (list_of us ++ ws) = e in
      let one : t ≡ u = cc in
      let r = same_parts ts us vs ws (omega arith) (let k : list_of ts ++ vs ≡ list_of us ++ ws = cc in k) in
      let more : ts ≡ us = r.0 in
      (cc, r.1)

  pub one : {rows : List (List Tree)} {sorts : List SortId} {vs ws : List Tree} → IsNamed sig rows sorts vs →
      IsNamed sig rows sorts ws → vs ≡ ws
  one no_sorts no_sorts = refl
  one (no_rows {s} {ss} {vs} small) (no_rows {vs = ws} other) =
      sym (list_of-trees_of vs)
      ∙ ap (λ ts. list_of ts) (ones_small sig (trees_of vs) (trees_of ws) (s ∷ ss) small other)
      ∙ list_of-trees_of ws
  one (no_rows small) (all_variables some_row begin other more) = absurd (some_row refl)
  one (no_rows small) (first_constructor c i first n more) = absurd (first.decides tt)
  one (all_variables some_row begin small more) (no_rows other) = absurd (some_row refl)
  one (all_variables {rows} {s} {ss} {v} {vs} some_row begin small more)
      (all_variables {v = w} {vs = ws} other_row others other rest) =
      let first : v ≡ w = one_small sig v w s small other in
      let same : vs ≡ ws = one more rest in
      cc
  one (all_variables some_row begin small more) (first_constructor c i first n rest) = absurd (first.decides begin)
  one (first_constructor c i first n more) (no_rows small) = absurd (first.decides tt)
  one (first_constructor c i first n more) (all_variables some_row begin small rest) = absurd (first.decides begin)
  one (first_constructor {rows} {s} {ss} {firsts} {rest} c i first n more)
      (first_constructor {firsts = us} {rest = ws} d j other m others) =
      let e : c ≡ d = one_first rows s ss c d i j firsts us rest ws first other
      (named_unadmitted (first_constructor c i first n more))
      (named_unadmitted (first_constructor d j other m others)) in
      let k : Some i ≡ Some j = sym first.info ∙ ap (λ f. info_of sig f) e ∙ other.info in
      let infos : i ≡ j = cc in
      let back : IsNamed sig (opened c (length i.args) rows) (i.args ++ ss) (list_of us ++ ws) = subst
      (λ (x : SymInfo). IsNamed sig (opened c (length x.args) rows) (x.args ++ ss) (list_of us ++ ws))
      (sym infos) (subst (λ f. IsNamed sig (opened f (length j.args) rows) (j.args ++ ss) (list_of us
      ++ ws)) (sym e) others) in
      let lengths : length (list_of firsts) ≡ length (list_of us) = n
      ∙ ap (λ (x : SymInfo). length x.args) infos ∙ sym m in
      let r = same_parts firsts us rest ws lengths (one more back) in
      let args : firsts ≡ us = r.0 in
      let same : rest ≡ ws = r.1 in
      cc
