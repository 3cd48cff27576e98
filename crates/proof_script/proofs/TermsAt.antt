-- The term at the front of some bytes is the only one, and its first word tells which it is.
use Rattle.std.proofs.Common.{◌≡◌, inl, inr, ℕ, zero, suc, ◌+◌, ◌<◌, ◌≤◌, List, [], ◌∷◌, ◌++◌, Option, Some, None}
use Rattle.std.proofs.Common.{refl, ap, sym, ◌∙◌, subst, codes, length, length-append, map, append_assoc, append-nil}
use Rattle.std.proofs.Common.{arith}
use Rattle.std.proofs.lemmas.List.{length-map}
use Rattle.std.specs.Prelude.{true, ◌-◌, slice_get, option_map, MatchOption}
use Rattle.std.proofs.Math.Nat.{le-max_left, le-max_right, max-le}
use Rattle.std.specs.List.{AllByRecursion, range_with_len}
use Rattle.std.specs.Fmt.{decimal}
use Rattle.std.proofs.lemmas.List.FromFn.{length-range_with_len}
use Rattle.std.proofs.lemmas.Option.{slice_get-map, slice_get_within}
use Rattle.term_core.specs.Tree.{Tree, Trees, var, app, none, some, list_of, tree_depth, depths}
use Rattle.term_core.specs.Variables.{occurrences, occurrences_all}
use Rattle.spec_core.specs.declared.records.SymInfo.{SymInfo}
use Rattle.spec_core.specs.Sig.{Sig, names_of, info_of}
use Rattle.spec_core.specs.TermText.{symbol_text, term_text, others_text}
use Rattle.proof_script.specs.Words.{pattern_text, other_patterns_text}
use Rattle.proof_script.specs.Names.{IsReportName}
use Rattle.proof_script.specs.Standing.{IsShort, SymbolStands, SymbolsStand}
use Rattle.proof_script.specs.Written.{text_by, others_by}
use Rattle.proof_script.specs.Delimiters.{is_end, Run, AllRun, Ends, Stops}
use Rattle.proof_script.specs.Reading.{IsFirstWord, CountFrom, count_after, mark, IsVariable, IsSymbol, arguments_by}
use Rattle.proof_script.specs.Reading.{IsReadable, IsTermAt, AreReadable, AreOthersAt, AreArgumentsAt}
use Rattle.proof_script.specs.declared.terms.Cursor.{Cursor}
use Rattle.proof_script.specs.declared.words.Variables.{Variables}
use Rattle.proof_script.specs.declared.words.Variables.TheVariants.{Numbered, Blank}
use Rattle.proof_script.proofs.Lists.{same_tail, Same, run_one}
use Rattle.proof_script.proofs.Runs.{ends_stop, true_false, IsMark, mark_name, decimal_run}
use Rattle.proof_script.proofs.PlainNames.{name_plain}
use Rattle.proof_script.proofs.TermReads.{mark_of, NamesDiffer, IsPlain, reads}
use Rattle.proof_script.proofs.SameTerms.{shorts, plain_by, all_map, alike_same, halves, as_many, same_by}
use Rattle.proof_script.proofs.SameTerms.{named_pattern, blank_at, range_below}

range_append : (k a b : ℕ) → range_with_len k (a + b) ≡ range_with_len k a ++ range_with_len (k + a) b
range_append k zero b = let z : 0 + b ≡ b = omega arith in let y : k ≡ k + 0 = omega arith in
    ap (λ n. range_with_len k n) z ∙ ap (λ j. range_with_len j b) y
range_append k (suc a) b =
    let z : suc a + b ≡ suc (a + b) = omega arith in
    let y : (k + 1) + a ≡ k + suc a = omega arith in
    ap (λ n. range_with_len k n) z
    ∙ ap (λ ns. k ∷ ns) (range_append (k + 1) a b ∙ ap (λ j. range_with_len (k + 1) a ++ range_with_len j b) y)

-- the variables of two parts are counted one after the other
pub count_split : (v : Variables) (k : ℕ) (ns ms : List ℕ) → CountFrom v k (ns ++ ms) →
    CountFrom v k ns × CountFrom v (count_after v k ns) ms
count_split Numbered k ns ms h = (tt, tt)
count_split Blank k ns ms h =
    let e : ns ++ ms ≡ range_with_len k (length ns) ++ range_with_len (k + length ns) (length ms) = h
    ∙ ap (λ n. range_with_len k n) (length-append ns ms) ∙ range_append k (length ns) (length ms) in
    let parts = halves ns (range_with_len k (length ns)) ms (range_with_len (k + length ns) (length ms))
    (sym (length-range_with_len k (length ns))) e in
    (parts.left, parts.right)

pub count_join : (v : Variables) (k : ℕ) (ns ms : List ℕ) → CountFrom v k ns →
    CountFrom v (count_after v k ns) ms → CountFrom v k (ns ++ ms)
count_join Numbered k ns ms h j = tt
count_join Blank k ns ms h j =
    let a : ns ≡ range_with_len k (length ns) = h in
    let b : ms ≡ range_with_len (k + length ns) (length ms) = j in
    (λ i. a i ++ b i) ∙ sym (range_append k (length ns) (length ms))
    ∙ ap (λ n. range_with_len k n) (sym (length-append ns ms))

pub count_on : (v : Variables) (k : ℕ) (ns ms : List ℕ) →
    count_after v (count_after v k ns) ms ≡ count_after v k (ns ++ ms)
count_on Numbered k ns ms = refl
count_on Blank k ns ms = omega (arith, length-append ns ms)

-- two terms that are read at one place are the same
module _ (sig : Sig) (d : NamesDiffer sig) where
  abbrev names_for : ℕ → List (List ℕ)
  names_for n = map (λ (m : ℕ). codes "_") (range_with_len 0 n)

  blank_for : (n m : ℕ) → m < n → mark_of (names_for n) m ≡ codes "_"
  blank_for n m h = blank_at (range_with_len 0 n) m (omega (arith, length-range_with_len 0 n, h))

  blanks_for : (n k : ℕ) (t : Tree) → CountFrom Blank k (occurrences t) → k + length (occurrences t) ≤ n →
      AllByRecursion (λ m. mark_of (names_for n) m ≡ codes "_") (occurrences t)
  blanks_for n k t h le =
      let xs = occurrences t in
      let below = subst (λ ys. AllByRecursion (λ x. x < k + length xs) ys) (sym h) (range_below k (length xs)) in
      all_map (λ x. x < k + length xs) (λ m. mark_of (names_for n) m ≡ codes "_") xs
      (λ m lt. blank_for n m (omega (arith, lt, le))) below

  blank_plain : (n k : ℕ) (t : Tree) → SymbolsStand sig t → CountFrom Blank k (occurrences t) →
      k + length (occurrences t) ≤ n → IsPlain sig (names_for n) t
  blank_plain n k t s h le = plain_by sig (names_for n) t
      (all_map (λ m. mark_of (names_for n) m ≡ codes "_") (λ m. IsMark (mark_of (names_for n) m))
      (occurrences t) (λ m e. inl e) (blanks_for n k t h le)) s

  numbered_plain : (t : Tree) → SymbolsStand sig t → IsPlain sig [] t
  numbered_plain t s = plain_by sig [] t (all_map IsShort (λ n. IsMark (mark_of [] n)) (occurrences t)
      (λ n k. inr (n, k, refl)) (shorts sig t s)) s

  pub one_term : (v : Variables) (room k : ℕ) (t u : Tree) (r s : List ℕ) → IsReadable sig v room k t →
      IsReadable sig v room k u → Ends r → Ends s → text_by sig v t ++ r ≡ text_by sig v u ++ s → (t ≡ u) × (r ≡ s)
  one_term Numbered room k t u r s p q x y e =
      let both = reads sig d [] [] t u r s (numbered_plain t p.symbols) (numbered_plain u q.symbols) x y e in
      (alike_same sig t u p.symbols q.symbols both.0, both.1)
  one_term Blank room k t u r s p q x y e =
      let n = k + length (occurrences t) + length (occurrences u) in
      let m = names_for n in
      let tn : pattern_text sig t ≡ term_text sig m t = named_pattern sig m t
      (blanks_for n k t p.counted (omega arith)) in
      let un : pattern_text sig u ≡ term_text sig m u = named_pattern sig m u
      (blanks_for n k u q.counted (omega arith)) in
      let named : term_text sig m t ++ r ≡ term_text sig m u ++ s = ap (λ z. z ++ r) (sym tn) ∙ e
      ∙ ap (λ z. z ++ s) un in
      let both = reads sig d m m t u r s (blank_plain n k t p.symbols p.counted (omega arith))
      (blank_plain n k u q.symbols q.counted (omega arith)) x y named in (
        same_by m m t u both.0 (p.counted ∙ ap (λ j. range_with_len k j) (as_many m m t u both.0)
            ∙ sym q.counted),
        both.1,
      )

-- the first word of a term, and what follows it
abbrev pub root_by : Sig → Variables → Tree → List ℕ
root_by sig v (var n) = mark v n
root_by sig v (app f ts) = symbol_text (slice_get (names_of sig) f)

abbrev pub behind_root : Sig → Variables → Tree → List ℕ
behind_root sig v (var n) = []
behind_root sig v (app f ts) = arguments_by sig v ts

call_parts : (name t ts : List ℕ) → name ++ codes "(" ++ t ++ ts ++ codes ")" ≡ name
    ++ (codes "(" ++ (t ++ (ts ++ codes ")")))
call_parts name t ts = append_assoc (name ++ codes "(" ++ t) ts (codes ")")
    ∙ append_assoc (name ++ codes "(") t (ts ++ codes ")") ∙ append_assoc name (codes "(") (t ++ (ts ++ codes ")"))

pub root_parts : (sig : Sig) (v : Variables) (t : Tree) → text_by sig v t ≡ root_by sig v t ++ behind_root sig v t
root_parts sig Numbered (var n) = sym (append-nil (codes "?" ++ decimal n))
root_parts sig Blank (var n) = refl
root_parts sig Numbered (app f none) = sym (append-nil (symbol_text (slice_get (names_of sig) f)))
root_parts sig Blank (app f none) = sym (append-nil (symbol_text (slice_get (names_of sig) f)))
root_parts sig Numbered (app f (some t ts)) = call_parts (symbol_text (slice_get (names_of sig) f))
    (term_text sig [] t) (others_text sig [] ts)
root_parts sig Blank (app f (some t ts)) = call_parts (symbol_text (slice_get (names_of sig) f))
    (pattern_text sig t) (other_patterns_text sig ts)

mark_run_by : (v : Variables) (n : ℕ) → IsShort n → AllRun (mark v n)
mark_run_by Numbered n h = (refl, decimal_run n h)
mark_run_by Blank n h = (refl, tt)

module _ (sig : Sig) (v : Variables) where
  symbol_at : (f : ℕ) (arity : ℕ) → SymbolStands sig f arity →
      (name : List ℕ) × (slice_get (names_of sig) f ≡ Some name) × IsReportName name
  symbol_at f arity (text, info, at, long, is) = (
    text,
    slice_get-map (λ (e : List ℕ × SymInfo). e.0) sig.table f
        ∙ ap (λ z. option_map (λ (e : List ℕ × SymInfo). e.0) z) at,
    is,
  )

  root_run : (t : Tree) → SymbolsStand sig t → AllRun (root_by sig v t)
  root_run (var n) h = mark_run_by v n h
  root_run (app f ts) h = let s = symbol_at f (length (list_of ts)) h.0 in
      subst AllRun (sym (ap symbol_text s.1)) (name_plain s.0 s.2).run

  behind_stops : (t : Tree) (r : List ℕ) → Ends r → Stops Run (behind_root sig v t ++ r)
  behind_stops (var n) r e = ends_stop r e
  behind_stops (app f none) r e = ends_stop r e
  behind_stops (app f (some t ts)) r e = λ h. true_false h

  -- a term at the front begins with the first word
  pub root_is : (room k : ℕ) (bytes word rest : List ℕ) (t : Tree) (r : List ℕ) → IsFirstWord bytes word rest →
      IsTermAt sig v room k bytes t r → Same word (root_by sig v t) rest (behind_root sig v t ++ r)
  root_is room k bytes word rest t r w h = run_one Run word (root_by sig v t) rest (behind_root sig v t ++ r)
      w.run (root_run t h.readable.symbols) w.stops (behind_stops t r h.ends)
      (sym w.is ∙ h.is ∙ ap (λ z. z ++ r) (root_parts sig v t) ∙ append_assoc (root_by sig v t) (behind_root sig v t) r)

  -- a variable at the front is the first word
  pub variable_at : (room k : ℕ) (bytes word rest : List ℕ) (n : ℕ) (r : List ℕ) → IsFirstWord bytes word rest →
      IsTermAt sig v room k bytes (var n) r → IsVariable v k word n
  variable_at room k bytes word rest n r w
      h = record {
        short = h.readable.symbols;
        is = (root_is room k bytes word rest (var n) r w h).text;
        counted = h.readable.counted;
      }

  pub symbol_of : (room k : ℕ) (bytes word rest : List ℕ) (f : ℕ) (ts : Trees) (r : List ℕ) →
      IsFirstWord bytes word rest → IsTermAt sig v room k bytes (app f ts) r → IsSymbol sig word f
  symbol_of room k bytes word rest f ts r w h =
      let s = symbol_at f (length (list_of ts)) h.readable.symbols.0 in
      let e : word ≡ s.0 = (root_is room k bytes word rest (app f ts) r w h).text ∙ ap symbol_text s.1 in
      record { at = s.1 ∙ ap (λ z. Some z) (sym e); name = subst IsReportName (sym e) s.2 }

  -- no variable's word is the name of a symbol
  pub apart_by : (k : ℕ) (word : List ℕ) (n f : ℕ) → IsVariable v k word n → IsSymbol sig word f → ⊥
  apart_by k word n f x s = by v x.is
    where
      by : (v : Variables) → word ≡ mark v n → ⊥
      by Numbered e = mark_name word word (inr (n, x.short, e)) (name_plain word s.name) refl
      by Blank e = mark_name word word (inl e) (name_plain word s.name) refl

  -- the arguments of a term at the front
  pub arguments_at : (room k : ℕ) (bytes word rest : List ℕ) (f : ℕ) (ts : Trees) (r : List ℕ) →
      IsFirstWord bytes word rest → IsTermAt sig v room k bytes (app f ts) r →
      AreArgumentsAt sig v (room - 1) k (length (list_of ts)) rest ts r
  arguments_at room k bytes word rest f ts r w h = record {
    readable = record {
      symbols = h.readable.symbols.1;
      depth = omega (arith, h.readable.depth);
      counted = h.readable.counted;
      many = refl;
    };
    is = (root_is room k bytes word rest (app f ts) r w h).rest;
  }

  -- a symbol's number of arguments
  pub arity_is : (f arity : ℕ) (info : SymInfo) → SymbolStands sig f arity → info_of sig f ≡ Some info →
      arity ≡ length info.args
  arity_is f arity info (text, other, at, long, is) e =
      let got : Some other ≡ Some info = sym (ap (λ z. option_map (λ (x : List ℕ × SymInfo). x.1) z) at) ∙ e in
      let same : other ≡ info = cc in
      sym long ∙ ap (λ (i : SymInfo). length i.args) same

module _ (sig : Sig) (v : Variables) where
  others_end_by : (ts : Trees) (c : ℕ) (r : List ℕ) → is_end c ≡ true → Ends (others_by sig v ts ++ (c ∷ r))
  others_end_by ts c r e = by v ts
    where
      by : (v : Variables) (ts : Trees) → Ends (others_by sig v ts ++ (c ∷ r))
      by Numbered none = e
      by Numbered (some t ts) = refl
      by Blank none = e
      by Blank (some t ts) = refl

  others_ends : (ts : Trees) (r : List ℕ) → Ends r → Ends (others_by sig v ts ++ r)
  others_ends ts r e = by v ts
    where
      by : (v : Variables) (ts : Trees) → Ends (others_by sig v ts ++ r)
      by Numbered none = e
      by Numbered (some t ts) = refl
      by Blank none = e
      by Blank (some t ts) = refl

  others_none : others_by sig v none ≡ []
  others_none = by v
    where
      by : (v : Variables) → others_by sig v none ≡ []
      by Numbered = refl
      by Blank = refl

  others_some : (t : Tree) (ts : Trees) (r : List ℕ) → others_by sig v (some t ts) ++ r ≡ codes ", "
      ++ (text_by sig v t ++ (others_by sig v ts ++ r))
  others_some t ts r = by v
    where
      by : (v : Variables) → others_by sig v (some t ts) ++ r ≡ codes ", "
          ++ (text_by sig v t ++ (others_by sig v ts ++ r))
      by Numbered = append_assoc (codes ", " ++ term_text sig [] t) (others_text sig [] ts) r
          ∙ append_assoc (codes ", ") (term_text sig [] t) (others_text sig [] ts ++ r)
      by Blank = append_assoc (codes ", " ++ pattern_text sig t) (other_patterns_text sig ts) r
          ∙ append_assoc (codes ", ") (pattern_text sig t) (other_patterns_text sig ts ++ r)

  arguments_some : (t : Tree) (ts : Trees) (r : List ℕ) → arguments_by sig v (some t ts) ++ r ≡ codes "("
      ++ (text_by sig v t ++ (others_by sig v ts ++ (41 ∷ r)))
  arguments_some t ts r =
      append_assoc (codes "(") (text_by sig v t ++ (others_by sig v ts ++ codes ")")) r
      ∙ ap (λ z. codes "(" ++ z) (append_assoc (text_by sig v t) (others_by sig v ts ++ codes ")") r
      ∙ ap (λ z. text_by sig v t ++ z) (append_assoc (others_by sig v ts) (codes ")") r))

  -- the first of several terms that may appear, and the others
  first_readable : (room k count : ℕ) (t : Tree) (ts : Trees) → AreReadable sig v room k count (some t ts) →
      IsReadable sig v room k t
  first_readable room k count t ts h = record {
    symbols = h.symbols.0;
    depth = omega (
      arith,
      h.depth,
      le-max_left (tree_depth t) (depths ts),
    );
    counted = (count_split v k (occurrences t) (occurrences_all ts)
        h.counted).0;
  }

  others_readable : (room k count : ℕ) (t : Tree) (ts : Trees) → AreReadable sig v room k count (some t ts) →
      AreReadable sig v room (count_after v k (occurrences t)) (count - 1) ts
  others_readable room k count t ts h = record {
    symbols = h.symbols.1;
    depth = omega (
      arith,
      h.depth,
      le-max_right (tree_depth t) (depths ts),
    );
    counted = (count_split v k (occurrences t) (occurrences_all ts)
        h.counted).1;
    many = omega (arith, h.many);
  }

  all_readable : (room k count : ℕ) (t : Tree) (ts : Trees) → 0 < count → IsReadable sig v room k t →
      AreReadable sig v room (count_after v k (occurrences t)) (count - 1) ts →
      AreReadable sig v room k count (some t ts)
  all_readable room k count t ts some_left h j = record {
    symbols = (h.symbols, j.symbols);
    depth = max-le
        h.depth j.depth;
    counted = count_join v k (occurrences t) (occurrences_all ts) h.counted j.counted;
    many = omega (arith, j.many, some_left);
  }

  -- what is read of others
  pub none_left : (room k : ℕ) (bytes : List ℕ) → Ends bytes → AreOthersAt sig v room k 0 bytes none bytes
  none_left room k bytes
      e = record {
        readable = record { symbols = tt; depth = omega arith; counted = by v; many = refl };
        is = ap
            (λ z. z ++ bytes) (sym others_none);
        ends = e;
      }
    where
      by : (v : Variables) → CountFrom v k []
      by Numbered = tt
      by Blank = refl

  next_at : (room k count : ℕ) (bytes next : List ℕ) (t : Tree) (ts : Trees) (r : List ℕ) →
      bytes ≡ codes ", " ++ next → AreOthersAt sig v room k count bytes (some t ts) r →
      IsTermAt sig v room k next t (others_by sig v ts ++ r)
  next_at room k count bytes next t ts r e h = record {
    readable = first_readable room k count t ts h.readable;
    is = same_tail (same_tail (sym e ∙ h.is ∙ others_some t ts r));
    ends = others_ends ts r h.ends;
  }

  pub no_next : (room k count : ℕ) (bytes next : List ℕ) → (count ≡ 0 → ⊥) → bytes ≡ codes ", " ++ next →
      ((t : Tree) (r : List ℕ) → IsTermAt sig v room k next t r → ⊥) → (ts : Trees) (r : List ℕ) →
      AreOthersAt sig v room k count bytes ts r → ⊥
  no_next room k count bytes next n e never none r h = n (sym h.readable.many)
  no_next room k count bytes next n e never (some t ts) r h = never t (others_by sig v ts ++ r)
      (next_at room k count bytes next t ts r e h)

  module _ (d : NamesDiffer sig) where
    -- if a term is read, the further ones come after it
    pub others_behind : (room k count : ℕ) (bytes next : List ℕ) (t : Tree) (behind : List ℕ) (u : Tree)
        (us : Trees) (r : List ℕ) → bytes ≡ codes ", " ++ next → IsTermAt sig v room k next t behind →
        AreOthersAt sig v room k count bytes (some u us) r →
        AreOthersAt sig v room (count_after v k (occurrences t)) (count - 1) behind us r
    others_behind room k count bytes next t behind u us r e x h =
        let y = next_at room k count bytes next u us r e h in
        let one = one_term sig d v room k u t (others_by sig v us ++ r) behind y.readable x.readable y.ends
        x.ends (sym y.is ∙ x.is) in
        subst (λ w. AreOthersAt sig v room (count_after v k (occurrences w)) (count - 1) behind us r) one.0
        (record { readable = others_readable room k count u us h.readable; is = sym one.1; ends = h.ends })

    pub no_others : (room k count : ℕ) (bytes next : List ℕ) (t : Tree) (behind : List ℕ) → (count ≡ 0 → ⊥) →
        bytes ≡ codes ", " ++ next → IsTermAt sig v room k next t behind →
        ((us : Trees) (r : List ℕ) → AreOthersAt sig v room (count_after v k (occurrences t)) (count - 1) behind
        us r → ⊥) → (us : Trees) (r : List ℕ) → AreOthersAt sig v room k count bytes us r → ⊥
    no_others room k count bytes next t behind n e x never none r h = n (sym h.readable.many)
    no_others room k count bytes next t behind n e x never (some u us) r h = never us r
        (others_behind room k count bytes next t behind u us r e x h)

    one_others : (room k count : ℕ) (bytes : List ℕ) (ts us : Trees) (r s : List ℕ) →
        AreOthersAt sig v room k count bytes ts r → AreOthersAt sig v room k count bytes us s → r ≡ s
    one_others room k count bytes none none r s p q = sym (p.is ∙ ap (λ z. z ++ r) others_none)
        ∙ (q.is ∙ ap (λ z. z ++ s) others_none)
    one_others room k count bytes none (some u us) r s p q = absurd (let a : 0 ≡ count = p.readable.many in
        omega (arith, a, q.readable.many))
    one_others room k count bytes (some t ts) none r s p q = absurd (let a : 0 ≡ count = q.readable.many in
        omega (arith, a, p.readable.many))
    one_others room k count bytes (some t ts) (some u us) r s p q =
        let next = text_by sig v t ++ (others_by sig v ts ++ r) in
        let e : bytes ≡ codes ", " ++ next = p.is ∙ others_some t ts r in
        let x = next_at room k count bytes next t ts r e p in
        one_others room (count_after v k (occurrences t)) (count - 1) (others_by sig v ts ++ r) ts us r s
        (others_behind room k count bytes next t (others_by sig v ts ++ r) t ts r e x p)
        (others_behind room k count bytes next t (others_by sig v ts ++ r) u us s e x q)

    -- the same of all arguments
    pub first_at : (room k count : ℕ) (bytes next : List ℕ) (t : Tree) (ts : Trees) (r : List ℕ) →
        bytes ≡ codes "(" ++ next → AreArgumentsAt sig v room k count bytes (some t ts) r →
        IsTermAt sig v room k next t (others_by sig v ts ++ (41 ∷ r))
    first_at room k count bytes next t ts r e h = record {
      readable = first_readable room k count t ts
          h.readable;
      is = same_tail (sym e ∙ h.is ∙ arguments_some t ts r);
      ends = others_end_by ts 41 r refl;
    }

    pub no_first : (room k count : ℕ) (bytes next : List ℕ) → (count ≡ 0 → ⊥) → bytes ≡ codes "(" ++ next →
        ((t : Tree) (r : List ℕ) → IsTermAt sig v room k next t r → ⊥) → (ts : Trees) (r : List ℕ) →
        AreArgumentsAt sig v room k count bytes ts r → ⊥
    no_first room k count bytes next n e never none r h = n (sym h.readable.many)
    no_first room k count bytes next n e never (some t ts) r h = never t (others_by sig v ts ++ (41 ∷ r))
        (first_at room k count bytes next t ts r e h)

    arguments_behind : (room k count : ℕ) (bytes next : List ℕ) (t : Tree) (behind : List ℕ) (u : Tree)
        (us : Trees) (r : List ℕ) → bytes ≡ codes "(" ++ next → IsTermAt sig v room k next t behind →
        AreArgumentsAt sig v room k count bytes (some u us) r →
        AreOthersAt sig v room (count_after v k (occurrences t)) (count - 1) behind us (41 ∷ r)
    arguments_behind room k count bytes next t behind u us r e x h =
        let y = first_at room k count bytes next u us r e h in
        let one = one_term sig d v room k u t (others_by sig v us ++ (41 ∷ r)) behind y.readable x.readable
        y.ends x.ends (sym y.is ∙ x.is) in
        subst (λ w. AreOthersAt sig v room (count_after v k (occurrences w)) (count - 1) behind us (41 ∷ r)) one.0
        (record { readable = others_readable room k count u us h.readable; is = sym one.1; ends = refl })

    pub no_more_arguments : (room k count : ℕ) (bytes next : List ℕ) (t : Tree) (behind : List ℕ) →
        (count ≡ 0 → ⊥) → bytes ≡ codes "(" ++ next → IsTermAt sig v room k next t behind →
        ((us : Trees) (r : List ℕ) → AreOthersAt sig v room (count_after v k (occurrences t)) (count - 1) behind
        us r → ⊥) → (us : Trees) (r : List ℕ) → AreArgumentsAt sig v room k count bytes us r → ⊥
    no_more_arguments room k count bytes next t behind n e x never none r h = n (sym h.readable.many)
    no_more_arguments room k count bytes next t behind n e x never (some u us) r h = never us (41 ∷ r)
        (arguments_behind room k count bytes next t behind u us r e x h)

    pub not_closed : (room k count : ℕ) (bytes next : List ℕ) (t : Tree) (behind : List ℕ) (ts : Trees)
        (last : List ℕ) → (count ≡ 0 → ⊥) → bytes ≡ codes "(" ++ next → IsTermAt sig v room k next t behind →
        AreOthersAt sig v room (count_after v k (occurrences t)) (count - 1) behind ts last →
        ((rest : List ℕ) → last ≡ codes ")" ++ rest → ⊥) → (us : Trees) (r : List ℕ) →
        AreArgumentsAt sig v room k count bytes us r → ⊥
    not_closed room k count bytes next t behind ts last n e x y never none r h = n (sym h.readable.many)
    not_closed room k count bytes next t behind ts last n e x y never (some u us) r h =
        never r (one_others room (count_after v k (occurrences t)) (count - 1) behind ts us last (41 ∷ r) y
        (arguments_behind room k count bytes next t behind u us r e x h))

    one_arguments : (room k count : ℕ) (bytes : List ℕ) (ts us : Trees) (r s : List ℕ) →
        AreArgumentsAt sig v room k count bytes ts r → AreArgumentsAt sig v room k count bytes us s → r ≡ s
    one_arguments room k count bytes none none r s p q = sym p.is ∙ q.is
    one_arguments room k count bytes none (some u us) r s p q = absurd (let a : 0 ≡ count = p.readable.many in
        omega (arith, a, q.readable.many))
    one_arguments room k count bytes (some t ts) none r s p q = absurd (let a : 0 ≡ count = q.readable.many in
        omega (arith, a, p.readable.many))
    one_arguments room k count bytes (some t ts) (some u us) r s p q =
        let next = text_by sig v t ++ (others_by sig v ts ++ (41 ∷ r)) in
        let behind = others_by sig v ts ++ (41 ∷ r) in
        let e : bytes ≡ codes "(" ++ next = p.is ∙ arguments_some t ts r in
        let x = first_at room k count bytes next t ts r e p in
        same_tail (one_others room (count_after v k (occurrences t)) (count - 1) behind ts us (41 ∷ r) (41 ∷ s)
        (arguments_behind room k count bytes next t behind t ts r e x p)
        (arguments_behind room k count bytes next t behind u us s e x q))

    -- what follows the arguments of a term at the front is what was read after them
    pub same_behind : (room k count : ℕ) (bytes : List ℕ) (ts us : Trees) (r s : List ℕ) →
        AreArgumentsAt sig v room k count bytes ts r → AreArgumentsAt sig v room k count bytes us s → Ends s → Ends r
    same_behind room k count bytes ts us r s p q e = subst Ends (sym (one_arguments room k count bytes ts us r s p q)) e

  pub others_found : (room k count : ℕ) (bytes next : List ℕ) (t : Tree) (behind : List ℕ) (ts : Trees)
      (last : List ℕ) → (count ≡ 0 → ⊥) → bytes ≡ codes ", " ++ next → IsTermAt sig v room k next t behind →
      AreOthersAt sig v room (count_after v k (occurrences t)) (count - 1) behind ts last →
      AreOthersAt sig v room k count bytes (some t ts) last
  others_found room k count bytes next t behind ts last n e x y = record {
    readable = all_readable room k count t ts (omega (arith, n)) x.readable y.readable;
    is = e ∙ ap (λ z. codes ", " ++ z) (x.is ∙ ap (λ z. text_by sig v t ++ z) y.is) ∙ sym (others_some t ts last);
    ends = y.ends;
  }

  pub arguments_found : (room k count : ℕ) (bytes next : List ℕ) (t : Tree) (behind : List ℕ) (ts : Trees)
      (last rest : List ℕ) → (count ≡ 0 → ⊥) → bytes ≡ codes "(" ++ next → IsTermAt sig v room k next t behind →
      AreOthersAt sig v room (count_after v k (occurrences t)) (count - 1) behind ts last →
      last ≡ codes ")" ++ rest → AreArgumentsAt sig v room k count bytes (some t ts) rest
  arguments_found room k count bytes next t behind ts last rest n e x y c = record {
    readable = all_readable room k count t ts (omega (arith, n)) x.readable y.readable;
    is = e ∙ ap (λ z. codes "(" ++ z)
        (x.is ∙ ap (λ z. text_by sig v t ++ z) (y.is ∙ ap (λ z. others_by sig v ts ++ z) c))
        ∙ sym (arguments_some t ts rest);
  }

pub count_none : (v : Variables) (k : ℕ) → k ≡ count_after v k []
count_none Numbered k = refl
count_none Blank k = omega arith

table_entry : (table : List (List ℕ × SymInfo)) (f : ℕ) (name : List ℕ) (info : SymInfo) →
    option_map (λ (e : List ℕ × SymInfo). e.0) (slice_get table f) ≡ Some name →
    option_map (λ (e : List ℕ × SymInfo). e.1) (slice_get table f) ≡ Some info → slice_get table f ≡ Some (name, info)
table_entry table f name info e g = by (slice_get table f) e g
  where
    by : (o : Option (List ℕ × SymInfo)) → option_map (λ (e : List ℕ × SymInfo). e.0) o ≡ Some name →
        option_map (λ (e : List ℕ × SymInfo). e.1) o ≡ Some info → o ≡ Some (name, info)
    by None e g = absurd (let q : None ≡ Some name = e in cc)
    by (Some entry) e g =
        let q : Some entry.0 ≡ Some name = e in
        let r : Some entry.1 ≡ Some info = g in
        let x : entry.0 ≡ name = cc in
        let y : entry.1 ≡ info = cc in
        λ i. Some (x i, y i)

pub symbol_in_range : (sig : Sig) (word : List ℕ) (f : ℕ) → IsSymbol sig word f → f < length sig.table
symbol_in_range sig word f s = omega (
  arith,
  slice_get_within (names_of sig) f word s.at,
  length-map sig.table (λ (e : List ℕ × SymInfo). e.0),
)

module _ (sig : Sig) (v : Variables) (room k : ℕ) (bytes word rest : List ℕ) (w : IsFirstWord bytes word rest) where
  -- if the first word is a variable, no other term is there
  pub ends_behind : (n : ℕ) → IsVariable v k word n → (t : Tree) (r : List ℕ) →
      IsTermAt sig v room k bytes t r → Ends rest
  ends_behind n x (var m) r h = subst Ends (sym (root_is sig v room k bytes word rest (var m) r w h).rest) h.ends
  ends_behind n x (app f ts) r h = absurd
      (apart_by sig v k word n f x (symbol_of sig v room k bytes word rest f ts r w h))

  pub variable_found : (n : ℕ) → (room ≡ 0 → ⊥) → IsVariable v k word n → Ends rest →
      IsTermAt sig v room k bytes (var n) rest
  variable_found n some_room x e = record {
    readable = record { symbols = x.short; depth = omega (arith, some_room); counted = x.counted };
    is = w.is ∙ ap (λ z. z ++ rest) (x.is ∙ sym (append-nil (mark v n)) ∙ sym (root_parts sig v (var n)));
    ends = e;
  }

  pub variable_read : (n : ℕ) → (room ≡ 0 → ⊥) → IsVariable v k word n → (o : Option (Tree × Cursor)) →
      MatchOption o (Ends rest → ⊥) (λ p. Ends rest × (p.0 ≡ var n) × (p.1.bytes.now ≡ rest)
      × (p.1.count ≡ count_after v k (n ∷ []))) →
      MatchOption o ((t : Tree) (r : List ℕ) → IsTermAt sig v room k bytes t r →
      ⊥) (λ p. IsTermAt sig v room k bytes p.0 p.1.bytes.now × (p.1.count ≡ count_after v k (occurrences p.0)))
  variable_read n some_room x None m = λ t r h. m (ends_behind n x t r h)
  variable_read n some_room x (Some p) m =
      let tree : p.0 ≡ var n = m.1 in
      let behind : p.1.bytes.now ≡ rest = m.2 in (
        subst (λ t. IsTermAt sig v room k bytes t p.1.bytes.now) (sym tree)
            (subst (λ r. IsTermAt sig v room k bytes (var n) r) (sym behind) (variable_found n some_room x m.0)),
        m.3 ∙ ap (λ t. count_after v k (occurrences t)) (sym tree),
      )

  pub no_term : ((n : ℕ) → IsVariable v k word n → ⊥) → ((f : ℕ) → IsSymbol sig word f → ⊥) →
      (t : Tree) (r : List ℕ) → IsTermAt sig v room k bytes t r → ⊥
  no_term x s (var n) r h = x n (variable_at sig v room k bytes word rest n r w h)
  no_term x s (app f ts) r h = s f (symbol_of sig v room k bytes word rest f ts r w h)

  module _ (d : NamesDiffer sig) (x : (n : ℕ) → IsVariable v k word n → ⊥) (f : ℕ) (s : IsSymbol sig word f)
      (info : SymInfo) (i : info_of sig f ≡ Some info) (arity : ℕ) (many : arity ≡ length info.args) where
    arguments_of : (g : ℕ) (us : Trees) (r : List ℕ) → IsTermAt sig v room k bytes (app g us) r →
        AreArgumentsAt sig v (room - 1) k arity rest us r
    arguments_of g us r h =
        let same : f ≡ g = d f g word s.at (symbol_of sig v room k bytes word rest g us r w h).at in
        let long = arity_is sig v g (length (list_of us)) info h.readable.symbols.0
        (ap (λ n. info_of sig n) (sym same) ∙ i) in
        subst (λ n. AreArgumentsAt sig v (room - 1) k n rest us r) (long ∙ sym many)
        (arguments_at sig v room k bytes word rest g us r w h)

    pub no_application : ((us : Trees) (r : List ℕ) → AreArgumentsAt sig v (room - 1) k arity rest us r → ⊥) →
        (t : Tree) (r : List ℕ) → IsTermAt sig v room k bytes t r → ⊥
    no_application never (var n) r h = x n (variable_at sig v room k bytes word rest n r w h)
    no_application never (app g us) r h = never us r (arguments_of g us r h)

    pub not_ended : (ts : Trees) (last : List ℕ) → AreArgumentsAt sig v (room - 1) k arity rest ts last →
        (Ends last → ⊥) → (t : Tree) (r : List ℕ) → IsTermAt sig v room k bytes t r → ⊥
    not_ended ts last a never (var n) r h = x n (variable_at sig v room k bytes word rest n r w h)
    not_ended ts last a never (app g us) r h = never (same_behind sig v d (room - 1) k arity rest ts us last r a
        (arguments_of g us r h) h.ends)

    pub application_found : (ts : Trees) (last : List ℕ) → (room ≡ 0 → ⊥) →
        AreArgumentsAt sig v (room - 1) k arity rest ts last → Ends last → IsTermAt sig v room k bytes (app f ts) last
    application_found ts last some_room a e = record {
      readable = record {
        symbols = (
          (
            word,
            info,
            table_entry sig.table f word info (sym (slice_get-map (λ (e : List ℕ × SymInfo). e.0) sig.table f)
                ∙ s.at) i,
            sym many ∙ sym a.readable.many,
            s.name,
          ),
          a.readable.symbols,
        );
        depth = omega (arith, a.readable.depth, some_room);
        counted = a.readable.counted;
      };
      is = w.is ∙ ap (λ z. word ++ z) a.is ∙ sym (append_assoc word (arguments_by sig v ts) last)
          ∙ ap (λ z. (z ++ arguments_by sig v ts) ++ last) (sym (ap symbol_text s.at))
          ∙ ap (λ z. z ++ last) (sym (root_parts sig v (app f ts)));
      ends = e;
    }
