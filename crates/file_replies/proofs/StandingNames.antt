-- Names of a specification that a text stands for may appear in a report.
use Rattle.std.proofs.Common.{ℕ, ◌≤◌, ◌<◌, List, [], ◌∷◌, ◌++◌, Option, Some, None, suc, IsTrue, codes, map, length}
use Rattle.std.proofs.Common.{lit<, lit≤, refl, sym, subst, arith}
use Rattle.std.specs.Prelude.{position, ◌||◌, ◌==◌}
use Rattle.std.specs.Char.{is_ascii_alphabetic, is_ascii_alphanumeric}
use Rattle.std.specs.List.{AllByRecursion, AllZip}
use Rattle.std.specs.Str.{bytes_eq, chars, IsUtf8, IsAscii}
use Rattle.std.proofs.lemmas.Slice.Zip.{AllZip-long}
use Rattle.std.proofs.lemmas.Str.{chars-IsAscii, IsUtf8-from_ascii}
use Rattle.std.proofs.lemmas.Str.Ascii.{IsAscii-nil, IsAscii-cons}
use Rattle.unicode_ident.specs.Ident.{is_xid_continue}
use Rattle.unicode_ident.proofs.IdentLemmas.{is_xid_start-ascii, is_xid_continue-ascii}
use Rattle.term_core.proofs.Items.{all_append}
use Rattle.spec_core.specs.declared.records.Goal.{Goal}
use Rattle.spec_core.specs.declared.records.Spec.{Spec}
use Rattle.spec_core.specs.declared.records.SymInfo.{SymInfo}
use Rattle.spec_core.specs.Declarations.{all_symbols}
use Rattle.spec_core.specs.Sig.{Sig, names_of}
use Rattle.spec_text.specs.Names.{IsName}
use Rattle.spec_grammar.specs.declared.raw.RawBind.{RawBind}
use Rattle.spec_grammar.specs.declared.raw.RawEq.{RawEq}
use Rattle.spec_grammar.specs.declared.raw.RawFun.{RawFun}
use Rattle.spec_grammar.specs.declared.raw.RawGoal.{RawGoal}
use Rattle.spec_grammar.specs.declared.raw.RawNames.{RawNames}
use Rattle.spec_grammar.specs.declared.raw.RawSort.{RawSort}
use Rattle.spec_grammar.specs.declared.raw.RawSpec.{RawSpec}
use Rattle.spec_grammar.specs.RawTree.{RawTree, RawTrees, word, none, some}
use Rattle.spec_grammar.specs.Derives.{TextDerives}
use Rattle.spec_grammar.specs.Grammar.{IsSpecText}
use Rattle.spec_grammar.specs.KeepsLimits.{KeepsLimits}
use Rattle.spec_grammar.proofs.KeepsLimits.{few_rules}
use Rattle.sort_check.specs.Goals.{GoalStands, goal_names}
use Rattle.sort_check.specs.Occurrence.{with_name, after_word, names_after, names_after_all, names_after_sides}
use Rattle.sort_check.specs.Rules.{RuleStands}
use Rattle.sort_check.specs.Signatures.{sort_names, ConstructorStands, ConstructorsStand, FunctionStands}
use Rattle.sort_check.specs.Signatures.{SignatureStands}
use Rattle.sort_check.specs.StandsFor.{StandsFor}
use Rattle.proof_script.specs.Names.{IsReportName}
use Rattle.proof_script.proofs.Spelled.{report_name}
use Rattle.search_claims.specs.Names.{GoalNamesStand, NamesStand}
use Rattle.file_replies.proofs.NamesOfTexts.{WordsStand, AllWordsStand, AllSidesStand, BindsStand, GoalWordsStand}
use Rattle.file_replies.proofs.NamesOfTexts.{RawNamesStand, raw_names_stand}

-- the names of `Bool`'s constructors
abbrev AreLetters : List ℕ → Type 0
AreLetters cs = AllByRecursion (λ c. (c < 128) × IsTrue (is_ascii_alphanumeric c || (c == 95))) cs

letters_ascii : (cs : List ℕ) → AreLetters cs → IsAscii cs
letters_ascii [] h = IsAscii-nil
letters_ascii (c ∷ cs) h = IsAscii-cons c cs h.0.0 (letters_ascii cs h.1)

letters_continue : (cs : List ℕ) → AreLetters cs → AllByRecursion (λ d. IsTrue (is_xid_continue d)) cs
letters_continue [] h = tt
letters_continue (c ∷ cs) h = (rw (is_xid_continue-ascii c h.0.0) h.0.1, letters_continue cs h.1)

letters_spell : (c : ℕ) (cs : List ℕ) → c < 128 → IsTrue (is_ascii_alphabetic c || (c == 95)) →
    AreLetters (c ∷ cs) → IsUtf8 (c ∷ cs) × IsName (chars (c ∷ cs))
letters_spell c cs lt first h =
    let a = letters_ascii (c ∷ cs) h in
    let name : IsName (c ∷ cs) = (rw (is_xid_start-ascii c lt) first, letters_continue cs h.1) in
    (IsUtf8-from_ascii (c ∷ cs) a, subst (λ (xs : List ℕ). IsName xs) (sym (chars-IsAscii (c ∷ cs) a)) name)

true_stands : IsReportName (codes "true")
true_stands = report_name (codes "true") (lit≤ tt) refl
    (letters_spell 116 (codes "rue") (lit< tt) refl (
      (lit< tt, refl),
      ((lit< tt, refl), ((lit< tt, refl), ((lit< tt, refl), tt))),
    ))

false_stands : IsReportName (codes "false")
false_stands = report_name (codes "false") (lit≤ tt) refl
    (letters_spell 102 (codes "alse") (lit< tt) refl (
      (lit< tt, refl),
      ((lit< tt, refl), ((lit< tt, refl), ((lit< tt, refl), ((lit< tt, refl), tt)))),
    ))

-- the symbols
abbrev EntriesStand : List (List ℕ × SymInfo) → Type 0
EntriesStand es = AllByRecursion (λ (e : List ℕ × SymInfo). IsReportName e.0) es

own_stand : (sorts : List (List ℕ)) (n : ℕ) (cs : List RawNames) (es : List (List ℕ × SymInfo)) →
    AllByRecursion (λ (c : RawNames). IsReportName c.name) cs → AllZip (ConstructorStands sorts n) cs es →
    EntriesStand es
own_stand sorts n [] [] h z = tt
own_stand sorts n [] (e ∷ es) h z = absurd z
own_stand sorts n (c ∷ cs) [] h z = absurd z
own_stand sorts n (c ∷ cs) (e ∷ es) h z = (subst IsReportName (sym z.0.0) h.0, own_stand sorts n cs es h.1 z.1)

constructors_stand : (sorts : List (List ℕ)) (n : ℕ) (ss : List RawSort) (es : List (List ℕ × SymInfo)) →
    AllByRecursion (λ (s : RawSort). AllByRecursion (λ (c : RawNames). IsReportName c.name) s.constructors) ss →
    ConstructorsStand sorts n ss es → EntriesStand es
constructors_stand sorts n [] es h z = let nothing : EntriesStand [] = tt in subst EntriesStand (sym z) nothing
constructors_stand sorts n (s ∷ ss) es h (own, others, is, first, rest) =
    subst EntriesStand (sym is) (all_append (λ (e : List ℕ × SymInfo). IsReportName e.0) own others
    (own_stand sorts n s.constructors own h.0 first) (constructors_stand sorts (suc n) ss others h.1 rest))

functions_stand : (sorts : List (List ℕ)) (fs : List RawFun) (es : List (List ℕ × SymInfo)) →
    AllByRecursion (λ (f : RawFun). IsReportName f.head.name) fs → AllZip (FunctionStands sorts) fs es → EntriesStand es
functions_stand sorts [] [] h z = tt
functions_stand sorts [] (e ∷ es) h z = absurd z
functions_stand sorts (f ∷ fs) [] h z = absurd z
functions_stand sorts (f ∷ fs) (e ∷ es) h z = (subst IsReportName (sym z.0.0) h.0, functions_stand sorts fs es h.1 z.1)

entry_names : (es : List (List ℕ × SymInfo)) → EntriesStand es →
    AllByRecursion IsReportName (map (λ (e : List ℕ × SymInfo). e.0) es)
entry_names [] h = tt
entry_names (e ∷ es) h = (h.0, entry_names es h.1)

symbols_stand : (raw : RawSpec) (sig : Sig) → RawNamesStand raw → SignatureStands raw sig →
    AllByRecursion IsReportName (names_of sig)
symbols_stand raw sig names s =
    let sorts = codes "Bool" ∷ sort_names raw.sorts in
    let constructors = constructors_stand sorts 1 raw.sorts s.constructors names.constructors s.each_constructor in
    let functions = functions_stand sorts raw.funs s.functions names.functions s.each_function in
    let declared = all_append (λ (e : List ℕ × SymInfo). IsReportName e.0) s.constructors s.functions
    constructors functions in
    subst (λ (x : Sig). AllByRecursion IsReportName (names_of x)) (sym s.is)
    (entry_names (all_symbols s.constructors s.functions) (true_stands, (false_stands, declared)))

-- the variables of goals
with_name_stands : (seen : List (List ℕ)) (name : List ℕ) (o : Option ℕ) → AllByRecursion IsReportName seen →
    IsReportName name → AllByRecursion IsReportName (with_name seen name o)
with_name_stands seen name (Some n) h one = h
with_name_stands seen name None h one = all_append IsReportName seen (name ∷ []) h (one, tt)

after_word_stands : (seen : List (List ℕ)) (name : List ℕ) (after : List (List ℕ)) (o : Option ℕ) →
    AllByRecursion IsReportName seen → IsReportName name → AllByRecursion IsReportName after →
    AllByRecursion IsReportName (after_word seen name after o)
after_word_stands seen name after (Some f) h one others = others
after_word_stands seen name after None h one others = with_name_stands seen name (position (bytes_eq name) seen) h one

module _ (sig : Sig) where
  mutual
    after_stand : (seen : List (List ℕ)) (t : RawTree) → AllByRecursion IsReportName seen → WordsStand t →
        AllByRecursion IsReportName (names_after sig seen t)
    after_stand seen (word name at ts) h w = after_word_stands seen name (names_after_all sig seen ts)
        (position (bytes_eq name) (names_of sig)) h w.0 (all_after_stand seen ts h w.1)

    all_after_stand : (seen : List (List ℕ)) (ts : RawTrees) → AllByRecursion IsReportName seen →
        AllWordsStand ts → AllByRecursion IsReportName (names_after_all sig seen ts)
    all_after_stand seen none h w = h
    all_after_stand seen (some t ts) h w = all_after_stand (names_after sig seen t) ts (after_stand seen t h w.0) w.1

  sides_after_stand : (seen : List (List ℕ)) (es : List RawEq) → AllByRecursion IsReportName seen →
      AllSidesStand es → AllByRecursion IsReportName (names_after_sides sig seen es)
  sides_after_stand seen [] h w = h
  sides_after_stand seen (e ∷ es) h w =
      let left = after_stand seen e.left h w.0.0 in
      sides_after_stand (names_after sig (names_after sig seen e.left) e.right) es
      (after_stand (names_after sig seen e.left) e.right left w.0.1) w.1

  bind_names : (bs : List RawBind) → BindsStand bs → AllByRecursion IsReportName (map (λ (b : RawBind). b.name.name) bs)
  bind_names [] h = tt
  bind_names (b ∷ bs) h = (h.0, bind_names bs h.1)

  goal_stands : (raw : RawGoal) (goal : Goal) → GoalWordsStand raw → GoalStands sig raw goal → GoalNamesStand goal
  goal_stands raw goal w g =
      let sides = all_append (λ (e : RawEq). WordsStand e.left × WordsStand e.right) raw.premises
      raw.conclusions w.premises w.conclusions in
      let named : AllByRecursion IsReportName (goal_names sig raw) = sides_after_stand
      (map (λ (b : RawBind). b.name.name) raw.binds) (raw.premises ++ raw.conclusions)
      (bind_names raw.binds w.binds) sides in
      record {
        goal_name = subst IsReportName (sym g.name) w.name;
        variables = subst (λ names. AllByRecursion IsReportName names) (sym g.variables) named;
      }

  goals_stand : (raws : List RawGoal) (goals : List Goal) → AllByRecursion GoalWordsStand raws →
      AllZip (GoalStands sig) raws goals → AllByRecursion GoalNamesStand goals
  goals_stand [] [] w z = tt
  goals_stand [] (g ∷ gs) w z = absurd z
  goals_stand (r ∷ rs) [] w z = absurd z
  goals_stand (r ∷ rs) (g ∷ gs) w z = (goal_stands r g w.0 z.0, goals_stand rs gs w.1 z.1)

-- the names of a specification that a text stands for may appear in a report
pub names_stand : (bytes : List ℕ) (raw : RawSpec) (spec : Spec) → TextDerives IsSpecText bytes raw →
    StandsFor raw spec → NamesStand spec
names_stand bytes raw spec derived stands =
    let words = raw_names_stand bytes raw derived in
    record {
      symbols = symbols_stand raw spec.sig words stands.numbered.signature;
      goals = goals_stand spec.sig raw.goals spec.goals words.goals stands.numbered.goals;
    }

-- and it has few rules
pub rules_few : (raw : RawSpec) (spec : Spec) → KeepsLimits raw → StandsFor raw spec → length spec.rules ≤ 4000
rules_few raw spec limits stands =
    let as_many = AllZip-long (RuleStands spec.sig) raw.rules spec.rules stands.numbered.rules in
    omega (arith, as_many, limits.few_rules, few_rules raw.version)
