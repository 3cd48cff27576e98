-- The next word of a line, if it is a term or a list of them.
use Rattle.std.proofs.Common.{◌≡◌, ◌≤◌, ℕ, List, [], ◌∷◌, ◌++◌, ap, sym, ◌∙◌, subst, codes, length}
use Rattle.std.specs.List.{AllByRecursion}
use Rattle.term_core.specs.Tree.{Tree}
use Rattle.spec_core.specs.Sig.{Sig}
use Rattle.spec_core.specs.TermText.{term_text}
use Rattle.proof_script.specs.Delimiters.{Ends}
use Rattle.proof_script.specs.Words.{term, terms, patterns, pattern_text}
use Rattle.proof_script.specs.Standing.{TermStands, PatternStands}
use Rattle.proof_script.specs.Reading.{IsReadable, IsTermAt, IsListAt}
use Rattle.proof_script.specs.LineWords.{IsWordAt}
use Rattle.proof_script.specs.declared.words.Variables.TheVariants.{Numbered, Blank}
use Rattle.proof_script.proofs.Lists.{same_tail}
use Rattle.proof_script.proofs.TermReads.{NamesDiffer}
use Rattle.proof_script.proofs.SameTerms.{term_reads, pattern_reads}
use Rattle.proof_script.proofs.WordReads.{list_reads, term_begins, pattern_begins}

all_map : (P Q : Tree → Type 0) (ts : List Tree) → ((t : Tree) → P t → Q t) → AllByRecursion P ts → AllByRecursion Q ts
all_map P Q [] f h = tt
all_map P Q (t ∷ ts) f h = (f t h.0, all_map P Q ts f h.1)

module _ (sig : Sig) where
  term_readable : (t : Tree) → TermStands sig t → IsReadable sig Numbered 100 0 t
  term_readable t h = record { symbols = h.symbols; depth = h.depth; counted = tt }

  readable_term : (t : Tree) → IsReadable sig Numbered 100 0 t → TermStands sig t
  readable_term t h = record { symbols = h.symbols; depth = h.depth }

  pattern_readable : (t : Tree) → PatternStands sig t → IsReadable sig Blank 100 0 t
  pattern_readable t h = record { symbols = h.stands.symbols; depth = h.stands.depth; counted = h.numbered }

  readable_pattern : (t : Tree) → IsReadable sig Blank 100 0 t → PatternStands sig t
  readable_pattern t h = record { stands = record { symbols = h.symbols; depth = h.depth }; numbered = h.counted }

  pub term_found : (bytes text : List ℕ) (t : Tree) (rest : List ℕ) → bytes ≡ codes " " ++ text →
      IsTermAt sig Numbered 100 0 text t rest → IsWordAt sig bytes (term t) rest
  term_found bytes text t rest e h = record {
    stands = readable_term t h.readable;
    is = e
        ∙ ap (λ z. codes " " ++ z) h.is;
    ends = h.ends;
  }

  pub no_term : (bytes text : List ℕ) → bytes ≡ codes " " ++ text →
      ((t : Tree) (rest : List ℕ) → IsTermAt sig Numbered 100 0 text t rest → ⊥) → (t : Tree) (rest : List ℕ) →
      IsWordAt sig bytes (term t) rest → ⊥
  no_term bytes text e never t rest h = never t rest
      (record { readable = term_readable t h.stands; is = same_tail (sym e ∙ h.is); ends = h.ends })

  pub terms_found : (bytes text : List ℕ) (ts : List Tree) (rest : List ℕ) → bytes ≡ codes " " ++ text →
      IsListAt sig Numbered text ts rest → Ends rest → IsWordAt sig bytes (terms ts) rest
  terms_found bytes text ts rest e h x = record {
    stands = all_map (IsReadable sig Numbered 100 0)
        (TermStands sig) ts readable_term h.items;
    is = e ∙ ap (λ z. codes " " ++ z) h.is;
    ends = x;
  }

  terms_at : (bytes text : List ℕ) (ts : List Tree) (rest : List ℕ) → bytes ≡ codes " " ++ text →
      IsWordAt sig bytes (terms ts) rest → IsListAt sig Numbered text ts rest
  terms_at bytes text ts rest e h = record {
    items = all_map (TermStands sig) (IsReadable sig Numbered 100 0) ts
        term_readable h.stands;
    is = same_tail (sym e ∙ h.is);
  }

  pub no_terms : (bytes text : List ℕ) → bytes ≡ codes " " ++ text →
      ((ts : List Tree) (rest : List ℕ) → IsListAt sig Numbered text ts rest → ⊥) →
      (ts : List Tree) (rest : List ℕ) → IsWordAt sig bytes (terms ts) rest → ⊥
  no_terms bytes text e never ts rest h = never ts rest (terms_at bytes text ts rest e h)

  pub terms_go_on : NamesDiffer sig → (bytes text : List ℕ) (ts : List Tree) (rest : List ℕ) →
      bytes ≡ codes " " ++ text → IsListAt sig Numbered text ts rest → (Ends rest → ⊥) →
      (us : List Tree) (last : List ℕ) → IsWordAt sig bytes (terms us) last → ⊥
  terms_go_on d bytes text ts rest e h never us last k =
      let one = list_reads (term_text sig []) (TermStands sig) (term_reads sig d) (term_begins sig) ts us rest
      last (all_map (IsReadable sig Numbered 100 0) (TermStands sig) ts readable_term h.items) k.stands
      (sym h.is ∙ same_tail (sym e ∙ k.is)) in
      never (subst Ends (sym one.1) k.ends)

  pub patterns_found : (bytes text : List ℕ) (ts : List Tree) (rest : List ℕ) → bytes ≡ codes " " ++ text →
      IsListAt sig Blank text ts rest → 1 ≤ length ts → Ends rest → IsWordAt sig bytes (patterns ts) rest
  patterns_found bytes text ts rest e h n
      x = record {
        stands = (
          n,
          all_map (IsReadable sig Blank 100 0) (PatternStands sig) ts readable_pattern
              h.items,
        );
        is = e ∙ ap (λ z. codes " " ++ z) h.is;
        ends = x;
      }

  patterns_at : (bytes text : List ℕ) (ts : List Tree) (rest : List ℕ) → bytes ≡ codes " " ++ text →
      IsWordAt sig bytes (patterns ts) rest → IsListAt sig Blank text ts rest
  patterns_at bytes text ts rest e h = record {
    items = all_map (PatternStands sig) (IsReadable sig Blank 100 0)
        ts pattern_readable h.stands.1;
    is = same_tail (sym e ∙ h.is);
  }

  pub no_patterns : (bytes text : List ℕ) → bytes ≡ codes " " ++ text →
      ((ts : List Tree) (rest : List ℕ) → IsListAt sig Blank text ts rest → ⊥) →
      (ts : List Tree) (rest : List ℕ) → IsWordAt sig bytes (patterns ts) rest → ⊥
  no_patterns bytes text e never ts rest h = never ts rest (patterns_at bytes text ts rest e h)

  -- the list at the front and what follows it are these
  pub one_list : NamesDiffer sig → (bytes text : List ℕ) (ts : List Tree) (rest : List ℕ) →
      bytes ≡ codes " " ++ text → IsListAt sig Blank text ts rest → (us : List Tree) (last : List ℕ) →
      IsWordAt sig bytes (patterns us) last → (ts ≡ us) × (rest ≡ last)
  one_list d bytes text ts rest e h us last k =
      list_reads (pattern_text sig) (PatternStands sig) (pattern_reads sig d) (pattern_begins sig) ts us rest
      last (all_map (IsReadable sig Blank 100 0) (PatternStands sig) ts readable_pattern h.items) k.stands.1
      (sym h.is ∙ same_tail (sym e ∙ k.is))
