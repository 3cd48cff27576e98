use Rattle.std.proofs.Common.{◌≡◌, ℕ, ◌-◌, List, [], ◌∷◌, ◌++◌, ap, sym, ◌∙◌, subst, append-nil, append_assoc}
use Rattle.term_core.specs.Tree.{Tree, Trees, none, some, list_of, trees_of}
use Rattle.term_core.specs.Variables.{occurrences, occurrences_all}
use Rattle.term_core.proofs.Trees.{trees_of-list_of}
use Rattle.proof_script.specs.Reading.{IsTermAt, AreOthersAt, AreArgumentsAt, count_after}
use Rattle.proof_script.proofs.Runs.{true_false}
use Rattle.proof_script.proofs.SameTerms.{names_differ}
use Rattle.proof_script.proofs.TermsAt.{no_first, no_more_arguments, not_closed, no_next, no_others, none_left}
use Rattle.proof_script.proofs.TermsAt.{others_found, arguments_found, count_on, count_none, variable_read, no_term}
use Rattle.proof_script.proofs.TermsAt.{symbol_in_range, no_application, not_ended, application_found}
use Rattle.proof_script.proofs.terms.+terms.Goals as goal

pub read_others-returns-then-many-eq0 : goal.read_others-returns-then-many-eq0
read_others-returns-then-many-eq0 t c =
    let a = c.args in (
      none,
      subst (λ (n : ℕ). AreOthersAt a.sig.now a.variables a.room a.at.count n a.at.bytes.now none
          a.at.bytes.now) (sym c.if-many-eq0.true)
          (none_left a.sig.now a.variables a.room a.at.count a.at.bytes.now c.requires.ends),
      sym (append-nil a.made.now),
      count_none a.variables a.at.count,
    )

pub read_others-returns-in_default-2 : goal.read_others-returns-in_default-2
read_others-returns-in_default-2 t c =
    let a = c.args in
    no_next a.sig.now a.variables a.room a.at.count a.many a.at.bytes.now c.in-Some.bytes.now
    c.if-many-eq0.false c.in-Some.ensures (rw c.in_default-2.is at c.in_ok-term.ensures)

pub read_others-returns-in_default-3 : goal.read_others-returns-in_default-3
read_others-returns-in_default-3 t c =
    let a = c.args in
    let got = rw c.in-Some-2.is at c.in_ok-term.ensures in
    let left = rw c.in_default-3.is at c.in_ok-last.ensures in
    let behind = c.in-Some-2.next.bytes.now in
    let never = subst (λ (k : ℕ). (ts : Trees) (r : List ℕ) →
    AreOthersAt a.sig.now a.variables a.room k (a.many - 1) behind ts r → ⊥) got.1 left in
    no_others a.sig.now a.variables (names_differ a.sig.now c.requires.declared) a.room a.at.count a.many
    a.at.bytes.now c.in-Some.bytes.now c.in-Some-2.term behind c.if-many-eq0.false c.in-Some.ensures got.0 never

pub read_others-returns : goal.read_others-returns
read_others-returns t c =
    let a = c.args in
    let got = rw c.in-Some-2.is at c.in_ok-term.ensures in
    let rest = rw c.in-Some-3.is at c.in_ok-last.ensures in
    let term = c.in-Some-2.term in
    let behind = c.in-Some-2.next.bytes.now in
    let last = c.in-Some-3.last.bytes.now in
    let others = subst (λ (k : ℕ). AreOthersAt a.sig.now a.variables a.room k (a.many - 1) behind rest.0 last)
    got.1 rest.1 in (
      some term rest.0,
      others_found a.sig.now a.variables a.room a.at.count a.many a.at.bytes.now c.in-Some.bytes.now term behind
          rest.0 last c.if-many-eq0.false c.in-Some.ensures got.0 others,
      rest.2 ∙ ap (λ (z : List Tree). z ++ list_of rest.0) c.in_ok-push.ensures.pushed
          ∙ append_assoc a.made.now (term ∷ []) (list_of rest.0),
      rest.3 ∙ ap (λ (k : ℕ). count_after a.variables k (occurrences_all rest.0)) got.1
          ∙ count_on a.variables a.at.count (occurrences term) (occurrences_all rest.0),
    )

pub read_arguments-returns-in_default-2 : goal.read_arguments-returns-in_default-2
read_arguments-returns-in_default-2 t c =
    let a = c.args in
    no_first a.sig.now a.variables (names_differ a.sig.now c.requires) a.room a.at.count a.arity a.at.bytes.now
    c.in-Some.bytes.now c.if-arity-eq0.false c.in-Some.ensures (rw c.in_default-2.is at c.in_ok-first.ensures)

pub read_arguments-returns-in_default-3 : goal.read_arguments-returns-in_default-3
read_arguments-returns-in_default-3 t c =
    let a = c.args in
    let got = rw c.in-Some-2.is at c.in_ok-first.ensures in
    let left = rw c.in_default-3.is at c.in_ok-last.ensures in
    let behind = c.in-Some-2.next.bytes.now in
    let never = subst (λ (k : ℕ). (ts : Trees) (r : List ℕ) →
    AreOthersAt a.sig.now a.variables a.room k (a.arity - 1) behind ts r → ⊥) got.1 left in
    no_more_arguments a.sig.now a.variables (names_differ a.sig.now c.requires) a.room a.at.count a.arity
    a.at.bytes.now c.in-Some.bytes.now c.in-Some-2.first behind c.if-arity-eq0.false c.in-Some.ensures got.0 never

pub read_arguments-returns-in_default-after : goal.read_arguments-returns-in_default-after
read_arguments-returns-in_default-after t c =
    let a = c.args in
    let got = rw c.in-Some-2.is at c.in_ok-first.ensures in
    let rest = rw c.in-Some-3.is at c.in_ok-last.ensures in
    let behind = c.in-Some-2.next.bytes.now in
    let last = c.in-Some-3.last.bytes.now in
    let others = subst (λ (k : ℕ). AreOthersAt a.sig.now a.variables a.room k (a.arity - 1) behind rest.0 last)
    got.1 rest.1 in
    not_closed a.sig.now a.variables (names_differ a.sig.now c.requires) a.room a.at.count a.arity
    a.at.bytes.now c.in-Some.bytes.now c.in-Some-2.first behind rest.0 last c.if-arity-eq0.false
    c.in-Some.ensures got.0 others c.in_default-after.ensures

pub read_arguments-returns : goal.read_arguments-returns
read_arguments-returns t c =
    let a = c.args in
    let got = rw c.in-Some-2.is at c.in_ok-first.ensures in
    let rest = rw c.in-Some-3.is at c.in_ok-last.ensures in
    let first = c.in-Some-2.first in
    let behind = c.in-Some-2.next.bytes.now in
    let last = c.in-Some-3.last.bytes.now in
    let others = subst (λ (k : ℕ). AreOthersAt a.sig.now a.variables a.room k (a.arity - 1) behind rest.0 last)
    got.1 rest.1 in
    let whole : c.read_others.new.made ≡ first ∷ list_of rest.0 = rest.2
    ∙ ap (λ (z : List Tree). z ++ list_of rest.0) (c.in_ok-push.ensures.pushed
    ∙ ap (λ (z : List Tree). z ++ first ∷ []) c.in_ok-made.ensures) in
    let same : trees_of c.read_others.new.made ≡ some first rest.0 = ap trees_of whole
    ∙ ap (λ us. some first us) (trees_of-list_of rest.0) in (
      subst (λ us. AreArgumentsAt a.sig.now a.variables a.room a.at.count a.arity a.at.bytes.now us
          c.in-Some-after.bytes.now) (sym same)
          (arguments_found a.sig.now a.variables a.room a.at.count a.arity a.at.bytes.now c.in-Some.bytes.now
          first behind rest.0 last c.in-Some-after.bytes.now c.if-arity-eq0.false c.in-Some.ensures got.0
          others c.in-Some-after.ensures),
      rest.3 ∙ ap (λ (k : ℕ). count_after a.variables k (occurrences_all rest.0)) got.1
          ∙ count_on a.variables a.at.count (occurrences first) (occurrences_all rest.0)
          ∙ sym (ap (λ us. count_after a.variables a.at.count (occurrences_all us)) same),
    )

pub read_term-returns-in-Some : goal.read_term-returns-in-Some
read_term-returns-in-Some t c =
    let a = c.args in
    variable_read a.sig.now a.variables a.room a.at.count a.at.bytes.now c.split_word.result.0.now
    c.split_word.result.1.now c.split_word.ensures c.in-Some.var.0 c.if-room-eq0.false c.in-Some.ensures
    c.variable_before.result c.variable_before.ensures

pub read_term-returns-in_default-read_symbol : goal.read_term-returns-in_default-read_symbol
read_term-returns-in_default-read_symbol t c =
    let a = c.args in
    no_term a.sig.now a.variables a.room a.at.count a.at.bytes.now c.split_word.result.0.now
    c.split_word.result.1.now c.split_word.ensures c.in_default.ensures c.in_default-read_symbol.ensures

pub read_term-info-requires : goal.read_term-info-requires
read_term-info-requires t c = symbol_in_range c.args.sig.now c.split_word.result.0.now
    c.in-Some-read_symbol.sym.0 c.in-Some-read_symbol.ensures

pub read_term-returns-in_default-2 : goal.read_term-returns-in_default-2
read_term-returns-in_default-2 t c =
    let a = c.args in
    no_application a.sig.now a.variables a.room a.at.count a.at.bytes.now c.split_word.result.0.now
    c.split_word.result.1.now c.split_word.ensures (names_differ a.sig.now c.requires) c.in_default.ensures
    c.in-Some-read_symbol.sym.0 c.in-Some-read_symbol.ensures c.info.result.now c.info.ensures
    c.len-arity.result c.len-arity.ensures (rw c.in_default-2.is at c.in_ok-args.ensures)

pub read_term-returns-then-not-ends : goal.read_term-returns-then-not-ends
read_term-returns-then-not-ends t c =
    let a = c.args in
    let got = rw c.in-Some-2.is at c.in_ok-args.ensures in
    not_ended a.sig.now a.variables a.room a.at.count a.at.bytes.now c.split_word.result.0.now
    c.split_word.result.1.now c.split_word.ensures (names_differ a.sig.now c.requires) c.in_default.ensures
    c.in-Some-read_symbol.sym.0 c.in-Some-read_symbol.ensures c.info.result.now c.info.ensures
    c.len-arity.result c.len-arity.ensures (trees_of c.in-Some-2.args) c.in-Some-2.last.bytes.now got.0
    (λ e. true_false (sym (c.ends.ensures.1 e) ∙ c.if-not-ends.true))

pub read_term-returns : goal.read_term-returns
read_term-returns t c =
    let a = c.args in
    let got = rw c.in-Some-2.is at c.in_ok-args.ensures in
    let found = application_found a.sig.now a.variables a.room a.at.count a.at.bytes.now
    c.split_word.result.0.now c.split_word.result.1.now c.split_word.ensures
    (names_differ a.sig.now c.requires) c.in_default.ensures c.in-Some-read_symbol.sym.0
    c.in-Some-read_symbol.ensures c.info.result.now c.info.ensures c.len-arity.result c.len-arity.ensures
    (trees_of c.in-Some-2.args) c.in-Some-2.last.bytes.now c.if-room-eq0.false got.0
    (c.ends.ensures.0 c.if-not-ends.false) in (
      subst (λ u. IsTermAt a.sig.now a.variables a.room a.at.count a.at.bytes.now u c.in-Some-2.last.bytes.now)
          (sym c.app.ensures) found,
      got.1 ∙ ap (λ u. count_after a.variables a.at.count (occurrences u)) (sym c.app.ensures),
    )
