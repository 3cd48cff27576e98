-- A parse of a flat command has a text for each of its positional words and numbers.
use Rattle.std.proofs.Common.{refl, ◌≡◌, ◌∙◌, ◌<◌, ◌≤◌, ap, ℕ, true, List, [], ◌∷◌, length, is_some, Option, Some}
use Rattle.std.proofs.Common.{None, sym, subst, inl, inr, arith}
use Rattle.std.specs.List.{slice_index_or}
use Rattle.std.specs.Str.{bytes_eq}
use Rattle.std.specs.Prelude.{slice_get, option_and_then, option_map}
use Rattle.std.specs.Borrow.{Bor}
use Rattle.std.proofs.lemmas.List.{get_or-map, length-map}
use Rattle.std.proofs.lemmas.Option.{slice_get_within, get_or_from_slice_get}
use Rattle.clap.specs.Texts.{items_of}
use Rattle.clap.specs.Facts.{args_of, WantsDefault, least_values, unwrap_or_range}
use Rattle.clap.specs.Built.{IsPlain, IsParsedFrom, IsAuto}
use Rattle.clap.specs.Walk.{Rule, Text, rows_of, rule_of, texts}
use Rattle.clap.specs.Simple.{App, IsSimple, app_of, shape_of, has_simple_rules, is_simple}
use Rattle.clap.specs.Matches.{found_of, first_value, matched_of, one_text}
use Rattle.clap.specs.declared.parser.matches.Found.{Found}
use Rattle.clap.specs.declared.parser.matches.MatchedArg.{MatchedArg}
use Rattle.clap.specs.declared.builder.range.ValueRange.{ValueRange}
use Rattle.clap.specs.declared.builder.arg.Arg.{Arg}
use Rattle.clap.specs.declared.builder.command.Command.{Command}
use Rattle.clap.specs.declared.builder.value_parser.ValueParser.TheVariants.{Unsigned}
use Rattle.clap.specs.declared.parser.matches.ArgMatches.{ArgMatches}
use Rattle.clap.proofs.CallerLemmas.{required_has_value}
use Rattle.clap.proofs.SimpleLemmas.{ready_simple, simple_groups}
use Rattle.clap.proofs.FaultLemmas.{free_args}
use Rattle.clap.proofs.WalkLemmas.{both, first_value-rows, one_text-rows}
use Rattle.command_line.specs.declared.ranges.NumberRange.{NumberRange}
use Rattle.command_line.specs.FlatApps.{IsFlat, is_own}
use Rattle.command_line.specs.Readings.{HasSomeNumber, HasSomeWord}
use Rattle.command_line.specs.Rules.{number_rule, numeral_rule, word_rule}
use Rattle.command_line.proofs.OwnNames.{distinct_rules, own_at, own_parts}
use Rattle.command_line.proofs.Defaults.{default_reads, found_reads}

-- an argument with a default text has a list of them that isn't empty
some_default : (xs : List (Bor Text)) (usual : Text) → texts xs ≡ usual ∷ [] → 0 < length xs
some_default [] usual e = cc
some_default (x ∷ xs) usual e = omega arith

head : (xs : List Arg) → 0 < length xs → Arg
head [] lt = absurd (omega arith)
head (x ∷ xs) lt = x

-- a flat command, and a parse of it
-- what has a first value is found
is_matched : (f : Found) (id : Text) → is_some (first_value f id) ≡ true → is_some (matched_of f id) ≡ true
is_matched f id has = by (matched_of f id) has
  where
    by : (o : Option MatchedArg) →
        is_some (option_and_then (λ (a : MatchedArg). option_map (λ (s : Bor (List ℕ)). s.now)
        (slice_get a.vals.items 0)) o) ≡ true → is_some o ≡ true
    by None has = has
    by (Some x) has = refl

module _ (c : Command) (m : ArgMatches) (flat : IsFlat (app_of c)) (p : IsParsedFrom c m) where
  simple : IsSimple c
  simple = ready_simple c flat.ready (rw flat.leaf refl)

  plain : IsPlain c
  plain =
      let frees = free_args c simple flat.free in
      let parts = both (has_simple_rules (shape_of c)) _ flat.ready in
      let rules = both (shape_of c).is_plain _ parts.0 in
      let groups = simple_groups c rules.1 in (
        (λ k d lt. (
          (frees k d lt).exclusive,
          (frees k d lt).conflicts,
          (frees k d lt).overrides,
          groups k d lt,
        )),
        simple.groups,
      )

  rule_at : (k : ℕ) (d : Arg) → k < length (args_of c) →
      rule_of (slice_index_or (args_of c) k d) ≡ slice_index_or (app_of c).top.rules k (rule_of d)
  rule_at k d lt = sym (get_or-map rule_of (args_of c) k d (rule_of d) lt)

  -- no two arguments have one name
  unique : (k : ℕ) (d : Arg) → k < length (args_of c) → (j : ℕ) (e : Arg) → j < length (args_of c)
      → bytes_eq (slice_index_or (args_of c) j e).id.now (slice_index_or (args_of c) k d).id.now ≡ true → j ≡ k
  unique k d lt j e low same =
      let at_j : (slice_index_or (args_of c) j e).id.now ≡ (slice_index_or (app_of c).top.rules j
      (rule_of e)).id = ap (λ (r : Rule). r.id) (rule_at j e low) in
      let at_k : (slice_index_or (args_of c) k d).id.now ≡ (slice_index_or (app_of c).top.rules k
      (rule_of d)).id = ap (λ (r : Rule). r.id) (rule_at k d lt) in
      distinct_rules (app_of c).top.rules flat.names j k (rule_of d) (rule_of e)
      (rw (length-map (args_of c) rule_of) low) (rw (length-map (args_of c) rule_of) lt) (rw (← at_j, ← at_k) same)

  owned : (k : ℕ) (d : Arg) → k < length (args_of c) → is_own (slice_index_or (args_of c) k d).id.now ≡ true
  owned k d lt = ap (λ (r : Rule). is_own r.id) (rule_at k d lt)
      ∙ own_at (app_of c).top.rules k (rule_of d) flat.names (rw (length-map (args_of c) rule_of) lt)

  -- no argument is one that `clap` adds
  not_auto : (k : ℕ) (d : Arg) → k < length (args_of c) → IsAuto (slice_index_or (args_of c) k d) → ⊥
  not_auto k d lt auto =
      let own = own_parts (slice_index_or (args_of c) k d).id.now (owned k d lt) in
      elim auto [
        | inl h ↦ own.1 h
        | inr h ↦ own.2 h
      ]

  -- an argument without a range of its own takes one value at least
  takes_one : (k : ℕ) (d : Arg) (r : Rule) → rule_of (slice_index_or (args_of c) k d) ≡ r → r.range ≡ None →
      1 ≤ least_values (slice_index_or (args_of c) k d)
  takes_one k d r same none =
      let range : (slice_index_or (args_of c) k d).num_vals ≡ None = ap (λ (x : Rule). x.range) same ∙ none in
      subst (λ (o : Option ValueRange). 1 ≤ (unwrap_or_range o).start_inclusive) (sym range) (omega arith)

  -- a rule of the command is that of one of its arguments
  inside : (k : ℕ) (r : Rule) → slice_get (app_of c).top.rules k ≡ Some r → k < length (args_of c)
  inside k r is = rw (← length-map (args_of c) rule_of) (slice_get_within (app_of c).top.rules k r is)

  some_arg : (k : ℕ) (r : Rule) → slice_get (app_of c).top.rules k ≡ Some r → Arg
  some_arg k r is =
      let low = inside k r is in
      head (args_of c) (omega (arith, low))

  same_rule : (k : ℕ) (r : Rule) (is : slice_get (app_of c).top.rules k ≡ Some r) →
      rule_of (slice_index_or (args_of c) k (some_arg k r is)) ≡ r
  same_rule k r is = rule_at k (some_arg k r is) (inside k r is) ∙ get_or_from_slice_get (app_of c).top.rules k
      r (rule_of (some_arg k r is)) is

  -- a positional word has a text
  pub word_there : (k : ℕ) (name : Text) → slice_get (app_of c).top.rules k ≡ Some (word_rule name) →
      HasSomeWord (rows_of (found_of m)) name
  word_there k name is =
      let d = some_arg k (word_rule name) is in
      let low = inside k (word_rule name) is in
      let same = same_rule k (word_rule name) is in
      let a = slice_index_or (args_of c) k d in
      let has = required_has_value c m p plain simple.globals flat.negates k d low
      (ap (λ (x : Rule). x.required) same) (ap (λ (x : Rule). x.action) same)
      (simple.args k d low).delimiter (takes_one k d (word_rule name) same refl) (unique k d low)
      (own_parts a.id.now (owned k d low)).0 (not_auto k d low) in
      let id_is : a.id.now ≡ name = ap (λ (x : Rule). x.id) same in
      ap is_some (sym (first_value-rows (found_of m) name))
      ∙ subst (λ (i : Text). is_some (first_value (found_of m) i) ≡ true) id_is has

  -- an option with a usual number has a text that writes a number of its range
  pub number_there : (k : ℕ) (name usual : Text) (range : NumberRange) →
      slice_get (app_of c).top.rules k ≡ Some (number_rule name range usual) →
      HasSomeNumber (rows_of (found_of m)) name range
  number_there k name usual range is =
      let r = number_rule name range usual in
      let d = some_arg k r is in
      let low = inside k r is in
      let same = same_rule k r is in
      let a = slice_index_or (args_of c) k d in
      let wants : WantsDefault a = (
        (simple.args k d low).default_ifs,
        some_default (items_of a.default_vals) usual (ap (λ (x : Rule). x.defaults) same),
      ) in
      let read = default_reads c m p plain simple.globals k d low (unique k d low)
      (own_parts a.id.now (owned k d low)).0 (not_auto k d low) (ap (λ (x : Rule). x.action) same)
      (simple.args k d low).delimiter (takes_one k d r same refl) wants (Unsigned range.least range.most)
      (ap (λ (x : Rule). x.parser) same) in
      let id_is : a.id.now ≡ name = ap (λ (x : Rule). x.id) same in
      let passed = read.2 in
      record {
        text = read.0;
        found = sym (one_text-rows (found_of m) name)
            ∙ subst (λ (i : Text). one_text (found_of m) i ≡ Some read.0) id_is read.1;
        digits = passed.0;
        least = passed.2;
        most = passed.3;
      }

  -- a positional number has a text that writes a number of its range
  pub numeral_there :
      (k : ℕ) (name : Text) (range : NumberRange) →
      slice_get (app_of c).top.rules k ≡ Some (numeral_rule name range) →
      HasSomeNumber (rows_of (found_of m)) name range
  numeral_there k name range is =
      let r = numeral_rule name range in
      let d = some_arg k r is in
      let low = inside k r is in
      let same = same_rule k r is in
      let a = slice_index_or (args_of c) k d in
      let named = (own_parts a.id.now (owned k d low)).0 in
      let has =
      required_has_value c m p plain simple.globals flat.negates k d low
      (ap (λ (x : Rule). x.required) same) (ap (λ (x : Rule). x.action) same)
      (simple.args k d low).delimiter (takes_one k d r same refl) (unique k d low) named
      (not_auto k d low) in
      let read =
      found_reads c m p plain simple.globals k d low (unique k d low) named (not_auto k d low)
      (ap (λ (x : Rule). x.action) same) (simple.args k d low).delimiter
      (takes_one k d r same refl) (is_matched (found_of m) a.id.now has)
      (Unsigned range.least range.most) (ap (λ (x : Rule). x.parser) same) in
      let id_is : a.id.now ≡ name = ap (λ (x : Rule). x.id) same in
      let passed = read.2 in
      record {
        text = read.0;
        found =
            sym (one_text-rows (found_of m) name)
            ∙ subst (λ (i : Text). one_text (found_of m) i ≡ Some read.0) id_is read.1;
        digits = passed.0;
        least = passed.2;
        most = passed.3;
      }

pub is_simple_too : (app : App) → IsFlat app → is_simple app ≡ true
is_simple_too app flat = (both (is_simple app) _ flat.simple).0
