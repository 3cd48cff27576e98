-- What a walk finds, word by word.
use Rattle.std.proofs.Common.{◌≡◌, ◌≢◌, ◌<◌, ℕ, suc, ◌+◌, List, [], ◌∷◌, ◌++◌, true, Option, Some, None, Ok, Err}
use Rattle.std.proofs.Common.{option_map, refl, ap, sym, ◌∙◌, subst, arith, length, position, append_assoc}
use Rattle.std.specs.Prelude.{Result, unwrap_or}
use Rattle.std.specs.Str.{bytes_eq}
use Rattle.std.proofs.lemmas.Slice.Eq.{bytes_eq-Decides}
use Rattle.term_core.specs.Tree.{Tree, var, app, trees_of}
use Rattle.term_core.specs.declared.ids.SortId.{SortId}
use Rattle.term_core.specs.declared.ids.VarId.{VarId}
use Rattle.spec_core.specs.declared.records.SymInfo.{SymInfo}
use Rattle.spec_core.specs.Declarations.{bool_symbol}
use Rattle.spec_core.specs.Sig.{Sig, info_of, names_of}
use Rattle.spec_core.specs.Findings.{Search, Clean, First, then}
use Rattle.spec_grammar.specs.RawTree.{RawTree, RawTrees, word, none as no_raws, some as more_raws, raw_trees}
use Rattle.spec_grammar.specs.RawMeasure.{weight, weights, list_weight, list_weight_is}
use Rattle.sort_check.specs.Answers.{Tells, Answers}
use Rattle.sort_check.specs.Entries.{entry_named, with_variable}
use Rattle.sort_check.specs.Words.{count, variable_tests, other_tests, symbol_named, info_at, after_word}
use Rattle.sort_check.specs.Words.{entries_after, entries_after_all, symbol_tests, word_tests, term_tests, terms_tests}
use Rattle.sort_check.specs.Over.{IsOver, AreOver, AreOverBehind}
use Rattle.sort_check.specs.declared.entries.Entry.{Entry}
use Rattle.sort_check.specs.declared.faults.SortFault.{SortFault}
use Rattle.sort_check.specs.declared.faults.SortFault.TheVariants.{Sort}
use Rattle.sort_check.specs.declared.faults.SortKind.{SortKind}
use Rattle.sort_check.specs.declared.faults.SortKind.TheVariants.{UnknownName, WrongSort}
use Rattle.sort_check.specs.declared.faults.Part.{Part}
use Rattle.sort_check.specs.declared.faults.Part.TheVariants.{Left, Right, Goal, Ground}
use Rattle.sort_check.proofs.Places.{same_number, position_last}
use Rattle.sort_check.proofs.Telling.{tells_first, tells_then}
use Rattle.sort_check.proofs.Growth.{variable_extends, named_stays, extends_all, over_more}

pub count_is : (rs : List RawTree) → count (raw_trees rs) ≡ length rs
count_is [] = refl
count_is (r ∷ rs) = omega (arith, count_is rs)

-- the names and their numbers, as the code has them
pub name_none : {T : Type 0} (sig : Sig) (f : T → ℕ) (o : Option T) (n name : List ℕ) →
    option_map f o ≡ position (bytes_eq n) (names_of sig) → n ≡ name → o ≡ None → symbol_named sig name ≡ None
name_none sig f o n name e h q = ap (λ m. symbol_named sig m) (sym h) ∙ sym e ∙ ap (λ x. option_map f x) q

pub name_some : {T : Type 0} (sig : Sig) (f : T → ℕ) (o : Option T) (x : T) (n name : List ℕ) →
    option_map f o ≡ position (bytes_eq n) (names_of sig) → n ≡ name → o ≡ Some x → symbol_named sig name ≡ Some (f x)
name_some sig f o x n name e h q = ap (λ m. symbol_named sig m) (sym h) ∙ sym e ∙ ap (λ x. option_map f x) q

pub info_is : (sig : Sig) (f : ℕ) (i : SymInfo) → info_of sig f ≡ Some i → info_at sig f ≡ i
info_is sig f i e = ap (λ (o : Option SymInfo). unwrap_or o bool_symbol) e

pub args_are : (sig : Sig) (f : ℕ) (i : SymInfo) → info_of sig f ≡ Some i → (info_at sig f).args ≡ i.args
args_are sig f i e = ap (λ (j : SymInfo). j.args) (info_is sig f i e)

-- a variable that has just been added is found there
pub added_last : (es fs : List Entry) (name : List ℕ) (at n : ℕ) (place : Option SortId) →
    entry_named es name ≡ None → fs ≡ with_variable es name at place None → n ≡ length es → entry_named fs name ≡ Some n
added_last es fs name at n place k made len =
    let self : bytes_eq name name ≡ true = (bytes_eq-Decides name name).1 refl in
    ap (λ gs. entry_named gs name) made ∙ position_last (λ (e : Entry). bytes_eq name e.name) es
    (record { name = name; at = at; sort = place }) k self ∙ ap (λ m. Some m) (sym len)

-- the kind of another sort doesn't matter to a new variable
new_same : (part : Part) (es : List Entry) (wrong kind : SortKind) (at : ℕ) (place : Option SortId) →
    variable_tests part es kind at place None ≡ variable_tests part es wrong at place None
new_same Left es wrong kind at place = refl
new_same Right es wrong kind at place = refl
new_same Goal es wrong kind at place = refl
new_same Ground es wrong kind at place = refl

-- what is answered of a variable that is new, and of one that is known, in the words of its name
module _ (part : Part) (es fs : List Entry) (wrong : SortKind) (name : List ℕ) (at : ℕ) (place : Option SortId) where
  pub new_answers : (kind : SortKind) (r : Result VarId SortFault) → entry_named es name ≡ None →
      Answers (variable_tests part es kind at place None)
      (λ (v : VarId). (fs ≡ with_variable es name at place None) × (v.0 ≡ length es)) r →
      Answers (variable_tests part es wrong at place (entry_named es name))
      (λ (v : VarId). (fs ≡ with_variable es name at place (entry_named es name)) × (entry_named fs name ≡ Some v.0)) r
  new_answers kind (Ok v) k a =
      let found = added_last es fs name at v.0 place k a.1.0 a.1.1 in
      subst (λ o. Clean (variable_tests part es wrong at place o)
      × ((fs ≡ with_variable es name at place o) × (entry_named fs name ≡ Some v.0))) (sym k)
      (subst (λ s. Clean s) (new_same part es wrong kind at place) a.0, (a.1.0, found))
  new_answers kind (Err e) k a = subst (λ o. Tells (variable_tests part es wrong at place o) e) (sym k)
      (subst (λ s. Tells s e) (new_same part es wrong kind at place) a)

  pub known_answers : (n : ℕ) → entry_named es name ≡ Some n →
      Clean (variable_tests part es wrong at place (Some n)) → fs ≡ with_variable es name at place (Some n) →
      Clean (variable_tests part es wrong at place (entry_named es name))
      × ((fs ≡ with_variable es name at place (entry_named es name)) × (entry_named fs name ≡ Some n))
  known_answers n k c made =
      let found = ap (λ gs. entry_named gs name) made ∙ named_stays es (with_variable es name at place (Some n))
      name n (variable_extends es name at place (Some n)) k in
      subst (λ o. Clean (variable_tests part es wrong at place o)
      × ((fs ≡ with_variable es name at place o) × (entry_named fs name ≡ Some n))) (sym k) (c, (made, found))

module _ (sig : Sig) (part : Part) where
  -- one more term after the others
  pub walk_more : (v0 v1 v2 : List Entry) (raws rs : List RawTree) (sorts ss : List SortId) (r : RawTree)
      (s : SortId) (t : Tree) (m0 m1 m2 : List Tree) (res : Result (Unit {0}) SortFault) → raws ≡ r ∷ rs →
      sorts ≡ s ∷ ss → Clean (term_tests sig part v0 WrongSort r (Some s))
      × ((v1 ≡ entries_after sig v0 r (Some s)) × IsOver sig v1 r t) → m1 ≡ m0 ++ t ∷ [] →
      Answers (terms_tests sig part v1 (raw_trees rs) ss)
      (λ _. (v2 ≡ entries_after_all sig v1 (raw_trees rs) ss) × AreOverBehind sig v2 (raw_trees rs) m1 m2) res →
      Answers (terms_tests sig part v0 (raw_trees raws) sorts)
      (λ _. (v2 ≡ entries_after_all sig v0 (raw_trees raws) sorts) × AreOverBehind sig v2 (raw_trees raws) m0 m2) res
  walk_more v0 v1 v2 raws rs sorts ss r s t m0 m1 m2 res er es h em a =
      subst (λ xs. Answers (terms_tests sig part v0 (raw_trees xs) sorts)
      (λ _. (v2 ≡ entries_after_all sig v0 (raw_trees xs) sorts)
      × AreOverBehind sig v2 (raw_trees xs) m0 m2) res) (sym er)
      (subst (λ ys. Answers (terms_tests sig part v0 (raw_trees (r ∷ rs)) ys)
      (λ _. (v2 ≡ entries_after_all sig v0 (raw_trees (r ∷ rs)) ys)
      × AreOverBehind sig v2 (raw_trees (r ∷ rs)) m0 m2) res) (sym es) (by res a))
    where
      by : (q : Result (Unit {0}) SortFault) →
          Answers (terms_tests sig part v1 (raw_trees rs) ss)
          (λ _. (v2 ≡ entries_after_all sig v1 (raw_trees rs) ss) × AreOverBehind sig v2 (raw_trees rs) m1 m2)
          q → Answers (terms_tests sig part v0 (more_raws r (raw_trees rs)) (s ∷ ss))
          (λ _. (v2 ≡ entries_after_all sig v0 (more_raws r (raw_trees rs)) (s ∷ ss))
          × AreOverBehind sig v2 (more_raws r (raw_trees rs)) m0 m2) q
      by (Err e) f = tells_then _ _ e h.0 (subst (λ vs. Tells (terms_tests sig part vs (raw_trees rs) ss) e) h.1.0 f)
      by (Ok x) g =
          let more = extends_all sig v1 (raw_trees rs) ss in
          let here : IsOver sig v2 r t = subst (λ vs. IsOver sig vs r t) (sym g.1.0)
          (over_more sig v1 (entries_after_all sig v1 (raw_trees rs) ss) r t more h.1.1) in
          let b = g.1.1 in (
            (h.0, subst (λ vs. Clean (terms_tests sig part vs (raw_trees rs) ss)) h.1.0 g.0),
            (
              g.1.0 ∙ ap (λ vs. entries_after_all sig vs (raw_trees rs) ss) h.1.0,
              (t ∷ b.0, b.1 ∙ ap (λ xs. xs ++ b.0) em ∙ append_assoc m0 (t ∷ []) b.0, (here, b.2)),
            ),
          )

  module _ (es : List Entry) (wrong : SortKind) (place : Option SortId) (name : List ℕ) (at : ℕ)
      (args : List RawTree) (raw : RawTree) (is : word name at (raw_trees args) ≡ raw) where
    -- a word that is no symbol
    pub other_word : (Q : Search SortFault → Type 0) → symbol_named sig name ≡ None →
        Q (other_tests part es wrong name at (raw_trees args) place) → Q (term_tests sig part es wrong raw place)
    other_word Q k h = subst (λ r. Q (term_tests sig part es wrong r place)) is
        (subst (λ o. Q (word_tests sig part es wrong name at (raw_trees args) place
        (λ f. terms_tests sig part es (raw_trees args) (info_at sig f).args) o)) (sym k) h)

    -- a word that is a symbol
    pub symbol_word : (Q : Search SortFault → Type 0) (f n : ℕ) → n ≡ length args →
        symbol_named sig name ≡ Some f →
        Q (then (symbol_tests sig part wrong at f n place)
        (terms_tests sig part es (raw_trees args) (info_at sig f).args)) → Q (term_tests sig part es wrong raw place)
    symbol_word Q f n ln k h =
        let c : Q (then (symbol_tests sig part wrong at f (count (raw_trees args)) place)
        (terms_tests sig part es (raw_trees args) (info_at sig f).args)) = subst
        (λ m. Q (then (symbol_tests sig part wrong at f m place)
        (terms_tests sig part es (raw_trees args) (info_at sig f).args))) (ln ∙ sym (count_is args)) h in
        subst (λ r. Q (term_tests sig part es wrong r place)) is
        (subst (λ o. Q (word_tests sig part es wrong name at (raw_trees args) place
        (λ f. terms_tests sig part es (raw_trees args) (info_at sig f).args) o)) (sym k) c)

    pub unknown_found : symbol_named sig name ≡ None → length args ≢ 0 →
        First (term_tests sig part es wrong raw place) (Sort at UnknownName)
    unknown_found k n = other_word (λ s. First s (Sort at UnknownName)) k (by args n)
      where
        by : (rs : List RawTree) → length rs ≢ 0 →
            First (other_tests part es wrong name at (raw_trees rs) place) (Sort at UnknownName)
        by [] n = absurd (n refl)
        by (r ∷ rs) n = (tt, refl)

    alone : length args ≡ 0 → raw_trees args ≡ no_raws
    alone n = by args n
      where
        by : (rs : List RawTree) → length rs ≡ 0 → raw_trees rs ≡ no_raws
        by [] n = refl
        by (r ∷ rs) n = absurd (omega arith)

    pub variable_fault : (e : SortFault) → symbol_named sig name ≡ None → length args ≡ 0 →
        Tells (variable_tests part es wrong at place (entry_named es name)) e →
        Tells (term_tests sig part es wrong raw place) e
    variable_fault e k n f = other_word (λ s. Tells s e) k
        (subst (λ rs. Tells (other_tests part es wrong name at rs place) e) (sym (alone n)) f)

    pub variable_over : (fs : List Entry) (v : ℕ) (t : Tree) → symbol_named sig name ≡ None → length args ≡ 0 →
        Clean (variable_tests part es wrong at place (entry_named es name)) →
        fs ≡ with_variable es name at place (entry_named es name) → entry_named fs name ≡ Some v → t ≡ var v →
        Clean (term_tests sig part es wrong raw place) × ((fs ≡ entries_after sig es raw place) × IsOver sig fs raw t)
    variable_over fs v t k n c made found is_t =
        let clean = other_word (λ s. Clean s) k
        (subst (λ rs. Clean (other_tests part es wrong name at rs place)) (sym (alone n)) c) in
        let after : fs ≡ entries_after sig es (word name at (raw_trees args)) place = made
        ∙ ap (λ o. after_word sig es name at place
        (λ f. entries_after_all sig es (raw_trees args) (info_at sig f).args) o) (sym k) in
        let over : IsOver sig fs (word name at (raw_trees args)) t = subst
        (λ u. IsOver sig fs (word name at (raw_trees args)) u) (sym is_t) (alone n, k, found) in
        (clean, (subst (λ r. fs ≡ entries_after sig es r place) is after, subst (λ r. IsOver sig fs r t) is over))

    pub symbol_fault : (e : SortFault) (f n : ℕ) → n ≡ length args → symbol_named sig name ≡ Some f →
        Tells (symbol_tests sig part wrong at f n place) e → Tells (term_tests sig part es wrong raw place) e
    symbol_fault e f n ln k h = symbol_word (λ s. Tells s e) f n ln k
        (tells_first (symbol_tests sig part wrong at f n place)
        (terms_tests sig part es (raw_trees args) (info_at sig f).args) e h)

    pub args_fault : (e : SortFault) (f n : ℕ) → n ≡ length args → symbol_named sig name ≡ Some f →
        Clean (symbol_tests sig part wrong at f n place) →
        Tells (terms_tests sig part es (raw_trees args) (info_at sig f).args) e →
        Tells (term_tests sig part es wrong raw place) e
    args_fault e f n ln k h g = symbol_word (λ s. Tells s e) f n ln k
        (tells_then (symbol_tests sig part wrong at f n place)
        (terms_tests sig part es (raw_trees args) (info_at sig f).args) e h g)

    pub app_over : (f n : ℕ) (fs : List Entry) (ts : List Tree) (t : Tree) → n ≡ length args →
        symbol_named sig name ≡ Some f → Clean (symbol_tests sig part wrong at f n place) →
        Clean (terms_tests sig part es (raw_trees args) (info_at sig f).args) →
        fs ≡ entries_after_all sig es (raw_trees args) (info_at sig f).args →
        AreOverBehind sig fs (raw_trees args) [] ts → t ≡ app f (trees_of ts) →
        Clean (term_tests sig part es wrong raw place) × ((fs ≡ entries_after sig es raw place) × IsOver sig fs raw t)
    app_over f n fs ts t ln k h g e b is_t =
        let clean = symbol_word (λ s. Clean s) f n ln k (h, g) in
        let all : AreOver sig fs (raw_trees args) (trees_of ts) = subst
        (λ xs. AreOver sig fs (raw_trees args) (trees_of xs)) (sym b.1) b.2 in
        let over : IsOver sig fs (word name at (raw_trees args)) t = subst
        (λ u. IsOver sig fs (word name at (raw_trees args)) u) (sym is_t) (k, all) in
        let after : fs ≡ entries_after sig es (word name at (raw_trees args)) place = e
        ∙ ap (λ o. after_word sig es name at place
        (λ f. entries_after_all sig es (raw_trees args) (info_at sig f).args) o) (sym k) in
        (clean, (subst (λ r. fs ≡ entries_after sig es r place) is after, subst (λ r. IsOver sig fs r t) is over))

pub args_fall : (args : List RawTree) (name : List ℕ) (at : ℕ) (raw : RawTree) →
    word name at (raw_trees args) ≡ raw → list_weight args < weight raw
args_fall args name at raw e =
    let k : weights (raw_trees args) + 1 ≡ weight raw = ap (λ r. weight r) e in
    omega (arith, list_weight_is args)

pub rest_falls : (raws rs : List RawTree) (r : RawTree) → raws ≡ r ∷ rs → (weight r < list_weight raws)
    × (list_weight rs < list_weight raws)
rest_falls raws rs r e =
    let k : list_weight raws ≡ weight r + list_weight rs + 1 = ap (λ xs. list_weight xs) e in
    (omega arith, omega arith)

pub as_long : {A B : Type 0} (xs ws : List A) (ys bs : List B) (x : A) (y : B) → length xs ≡ length ys →
    xs ≡ x ∷ ws → ys ≡ y ∷ bs → length ws ≡ length bs
as_long xs ws ys bs x y l e f =
    let h : length xs ≡ suc (length ws) = ap (λ zs. length zs) e in
    let k : length ys ≡ suc (length bs) = ap (λ zs. length zs) f in
    omega arith

pub at_args : (sig : Sig) (f : ℕ) (i : SymInfo) (xs args : List RawTree) (ss : List SortId) (P : RawTrees →
    List SortId → Type 0) → info_of sig f ≡ Some i → xs ≡ args → ss ≡ i.args → P (raw_trees xs) ss →
    P (raw_trees args) (info_at sig f).args
at_args sig f i xs args ss P e x y h = subst (λ us. P (raw_trees args) us) (y ∙ sym (args_are sig f i e))
    (subst (λ rs. P (raw_trees rs) ss) x h)

pub as_many : (sig : Sig) (part : Part) (wrong : SortKind) (at f n : ℕ) (place : Option SortId) (i : SymInfo)
    (xs args : List RawTree) (ss : List SortId) → info_of sig f ≡ Some i → xs ≡ args → ss ≡ i.args →
    n ≡ length args → Clean (symbol_tests sig part wrong at f n place) → length xs ≡ length ss
as_many sig part wrong at f n place i xs args ss e x y ln c =
    let a = ap (λ rs. length rs) x in
    let b = ap (λ us. length us) (y ∙ sym (args_are sig f i e)) in
    let d : n ≡ length (info_at sig f).args = same_number n (length (info_at sig f).args) c.1.0 in
    omega (arith, a, b, d, ln)
