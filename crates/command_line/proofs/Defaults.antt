-- What a parse has of an argument with a default: a text that the argument's parser takes.
use Rattle.std.proofs.Common.{zero, suc, ◌≡◌, ◌∙◌, ◌<◌, ◌≤◌, ap, ℕ, Bool, true, false, List, [], ◌∷◌, length, is_some}
use Rattle.std.proofs.Common.{Option, Some, None, refl, sym, subst, inl, inr, arith}
use Rattle.std.specs.List.{All, slice_index_or}
use Rattle.std.specs.Str.{bytes_eq}
use Rattle.std.specs.Prelude.{find, option_map, slice_get}
use Rattle.std.specs.Borrow.{Bor}
use Rattle.std.proofs.lemmas.Slice.Eq.{bytes_eq-Decides}
use Rattle.clap.specs.Facts.{args_of, Entry, EntryPasses, PassesArg, WantsDefault, least_values, parser_of}
use Rattle.clap.specs.Facts.{parser_of_value}
use Rattle.clap.specs.Built.{IsPlain, IsParsedFrom, IsAuto, SameRules}
use Rattle.clap.specs.Matches.{matched_of, one_text, found_of}
use Rattle.clap.specs.declared.parser.matches.Found.{Found}
use Rattle.clap.specs.Values.{Accepts, read_as, reading_of}
use Rattle.clap.specs.declared.builder.value_parser.Reading.{Reading}
use Rattle.clap.proofs.CallerLemmas.{entry_by_id, same_rules_by_id, default_present}
use Rattle.clap.specs.declared.builder.action.ArgAction.TheVariants.{Count, Set}
use Rattle.clap.specs.declared.builder.arg.Arg.{Arg}
use Rattle.clap.specs.declared.builder.command.Command.{Command}
use Rattle.clap.specs.declared.builder.command.Command.TheViews.{out-Command}
use Rattle.clap.specs.declared.builder.value_parser.ValueParser.{ValueParser}
use Rattle.clap.specs.declared.parser.matches.ArgMatches.{ArgMatches}
use Rattle.clap.specs.declared.parser.matches.MatchedArg.{MatchedArg}

-- an entry that is in the list is found
entry_found : (xs : List Entry) (id : List ℕ) (i : ℕ) → i < length xs →
    ((d : Entry) → bytes_eq (slice_index_or xs i d).0.now id ≡ true)
    → is_some (option_map (λ e. e.1) (find (λ e. bytes_eq e.0.now id) xs)) ≡ true
entry_found [] id i lt hit = absurd (omega arith)
entry_found (x ∷ xs) id zero lt hit = rw (hit x) refl
entry_found (x ∷ xs) id (suc i) lt hit = go (bytes_eq x.0.now id) refl (entry_found xs id i (omega arith) hit)
  where
    go : (t : Bool) → bytes_eq x.0.now id ≡ t →
        is_some (option_map (λ e. e.1) (find (λ e. bytes_eq e.0.now id) xs)) ≡ true
        → is_some (option_map (λ e. e.1) (find (λ e. bytes_eq e.0.now id) (x ∷ xs))) ≡ true
    go true t rest = rw t refl
    go false t rest = rw t rest

-- the text of an entry is its first value, as the entry reads it
entry_text : (f : Found) (id : List ℕ) (x : MatchedArg) (how : Reading) (v : Bor (List ℕ)) (vs : List (Bor (List ℕ)))
    → matched_of f id ≡ Some x → x.reading ≡ how → x.vals.items ≡ v ∷ vs → one_text f id ≡ Some (read_as how v.now)
entry_text f id x how v vs found is items =
    let first : option_map (λ s. read_as how s.now) (slice_get x.vals.items 0) ≡ Some
    (read_as how v.now) = rw items refl in
    rw (found, is) first

-- the k-th argument of a plain command, whose name is its own and that of no other, and which takes one value at least
module _ (old : Command) (m : ArgMatches) (p : IsParsedFrom old m) (plain : IsPlain old)
    (globals : (out-Command old).has_globals ≡ false) (k : ℕ) (d : Arg) (lt : k < length (args_of old))
    (unique : (j : ℕ) (e : Arg) → j < length (args_of old) →
    bytes_eq (slice_index_or (args_of old) j e).id.now (slice_index_or (args_of old) k d).id.now ≡ true → j ≡ k)
    (named : (slice_index_or (args_of old) k d).id.now ≡ [] → ⊥) (own : IsAuto (slice_index_or (args_of old) k d) → ⊥)
    (set : (slice_index_or (args_of old) k d).action ≡ Some Set)
    (delim : (slice_index_or (args_of old) k d).val_delim ≡ None)
    (least : 1 ≤ least_values (slice_index_or (args_of old) k d)) where
  abbrev a : Arg
  a = slice_index_or (args_of old) k d

  abbrev id : List ℕ
  id = a.id.now

  -- the built command's argument of this name has the same rules
  rules : (j : ℕ) (x : Arg) → j < length (args_of p.built) → slice_index_or (args_of p.built) j x ≡ x →
      bytes_eq x.id.now id ≡ true → SameRules a x
  rules j x low at key = same_rules_by_id old m p k d lt unique own j x low at key

  parser : (q : ValueParser) → a.value_parser ≡ Some q → (x : Arg) → SameRules a x → parser_of x ≡ q
  parser q is x s = ap parser_of_value (s.parser q is)

  -- an entry of this name
  module _ (e : Entry) (key : e.0.now ≡ id) (pass : EntryPasses p.built e) where
    no_group : e.1.is_group ≡ true → ⊥
    no_group g = elim (pass.3 g) [
      | inl empty ↦ named (sym key ∙ empty)
      | inr lots ↦
          let bad : 0 < 0 = rw (p.from.plain plain).1 at lots in
          absurd (omega arith)
    ]

    has_values : 0 < length e.1.vals.items
    has_values = elim pass.1 [
      | inl h ↦ absurd (no_group h.0)
      | inr (inl v) ↦ v
      | inr (inr (inl h)) ↦
          let any = h.1 in
          let s = rules any.0 any.1 any.2 any.3 (rw key at any.4.0) in
          let is_set : any.1.action ≡ Some Set = s.action Set set in
          let bad : Set ≡ Count = rw is_set at any.4.1 in
          cc
      | inr (inr (inr h)) ↦
          let s = rules h.0 h.1 h.2 h.3 (rw key at h.4.0) in
          elim h.4.1 [
            | inl none ↦
                let one = s.least set least in
                absurd (omega arith)
            | inr has ↦
                let bad : false ≡ true = rw (s.val_delim, delim) at has in
                cc
          ]
    ]

    reads : (q : ValueParser) → a.value_parser ≡ Some q → e.1.reading ≡ reading_of q
    reads q is = elim pass.4 [
      | inl g ↦ absurd (no_group g)
      | inr any ↦
          let s = rules any.0 any.1 any.2 any.3 (rw key at any.4.0) in
          sym any.4.1 ∙ ap reading_of (parser q is any.1 s)
    ]

    accepts : (q : ValueParser) → a.value_parser ≡ Some q → (v : Bor (List ℕ)) →
        PassesArg p.built e.0.now v.now → Accepts a.ignore_case q v.now
    accepts q is v any =
        let s = rules any.0 any.1 any.2 any.3 (rw key at any.4.0) in
        let as_q : Accepts any.1.ignore_case q v.now = subst
        (λ (w : ValueParser). Accepts any.1.ignore_case w v.now) (parser q is any.1 s) any.4.1 in
        subst (λ (b : Bool). Accepts b q v.now) s.ignore_case as_q

    text : (q : ValueParser) → a.value_parser ≡ Some q → (x : MatchedArg) →
        matched_of (found_of m) id ≡ Some x → e.1 ≡ x
        → (t : List ℕ) × (one_text (found_of m) id ≡ Some (read_as (reading_of q) t)) × Accepts a.ignore_case q t
    text q is x found same = go e.1.vals.items refl has_values
      where
        go : (vs : List (Bor (List ℕ))) → e.1.vals.items ≡ vs → 0 < length vs
            → (t : List ℕ) × (one_text (found_of m) id ≡ Some (read_as (reading_of q) t)) × Accepts a.ignore_case q t
        go [] items some = absurd (omega arith)
        go (v ∷ vs) items some = (
          v.now,
          entry_text (found_of m) id x (reading_of q) v vs found (ap (λ (y : MatchedArg). y.reading) (sym same)
              ∙ reads q is)
              (ap (λ (y : MatchedArg). y.vals.items) (sym same) ∙ items),
          elim pass.0 [
            | inl g ↦ absurd (no_group g)
            | inr all ↦ accepts q is v
                (subst (λ (ws : List (Bor (List ℕ))). All (λ w. PassesArg p.built e.0.now w.now) ws) items all 0
                v (omega arith))
          ],
        )

  -- if it is found, it has a text that its parser takes, read as the parser says
  pub found_reads : is_some (matched_of (found_of m) id) ≡ true → (q : ValueParser) → a.value_parser ≡ Some q
      → (t : List ℕ) × (one_text (found_of m) id ≡ Some (read_as (reading_of q) t)) × Accepts a.ignore_case q t
  found_reads has q is = go (matched_of (found_of m) id) refl has
    where
      go : (o : Option MatchedArg) → matched_of (found_of m) id ≡ o → is_some o ≡ true
          → (t : List ℕ) × (one_text (found_of m) id ≡ Some (read_as (reading_of q) t)) × Accepts a.ignore_case q t
      go None found some = cc
      go (Some x) found some =
          let parsed = p.parsed (p.from.globals ∙ globals) in
          let got = entry_by_id (EntryPasses p.built) (found_of m).entries.items id x parsed.values found in
          text got.0 ((bytes_eq-Decides got.0.0.now id).0 got.2) got.3 q is x found got.1

  -- so it is if it has a default
  pub default_reads : WantsDefault a → (q : ValueParser) → a.value_parser ≡ Some q
      → (t : List ℕ) × (one_text (found_of m) id ≡ Some (read_as (reading_of q) t)) × Accepts a.ignore_case q t
  default_reads wants q is =
      let there = default_present old m p globals k d lt wants in
      found_reads (entry_found (found_of m).entries.items id there.0 there.1 there.2) q is
