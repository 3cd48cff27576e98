use Rattle.std.proofs.Common.{◌≡◌, ◌==◌, ℕ, List, [], ◌∷◌, ◌++◌, Some, None, length, Ok, Err, Result, ap, sym, ◌∙◌}
use Rattle.std.specs.Prelude.{OnOk, position}
use Rattle.term_core.specs.Gathered.{met}
use Rattle.term_core.proofs.Items.{if_ok_map}
use Rattle.term_core.specs.declared.ids.VarId.{VarId}
use Rattle.clause_core.specs.Tidied.{place_of}
use Rattle.clause_core.proofs.Renumbering.{found_at, not_found, met_old, met_new, place_last}
use Rattle.clause_core.proofs.tidying.new_number.Goals as goal

on_ok : {T E : Type 0} (r : Result T E) (P : Type 0) → P → OnOk r P
on_ok (Ok x) P p = p
on_ok (Err e) P p = tt

pub returns-in-Some-clause-olds : goal.returns-in-Some-clause-olds
returns-in-Some-clause-olds c =
    let olds = c.args.olds.now.items in
    let n = c.args.var.0 in
    let at : position (λ m. m == n) olds ≡ Some c.in-Some.place = ap
    (λ (os : List ℕ). position (λ m. m == n) os) (sym c.deref.ensures.value) ∙ sym c.in-Some.ensures in
    on_ok c.numbered.result (olds ≡ met olds n) (sym (met_old olds n (found_at olds n c.in-Some.place at).0))

pub returns-in-Some-clause-made : goal.returns-in-Some-clause-made
returns-in-Some-clause-made c =
    let olds = c.args.olds.now.items in
    let n = c.args.var.0 in
    let at : position (λ m. m == n) olds ≡ Some c.in-Some.place = ap
    (λ (os : List ℕ). position (λ m. m == n) os) (sym c.deref.ensures.value) ∙ sym c.in-Some.ensures in
    if_ok_map c.numbered.result (λ (made : VarId). made.0 ≡ c.in-Some.place)
    (λ (made : VarId). made.0 ≡ place_of olds n) (λ made e. e ∙ sym (found_at olds n c.in-Some.place at).1)
    c.numbered.ensures

pub returns-in_ok-push-in-None : goal.returns-in_ok-push-in-None
returns-in_ok-push-in-None c =
    let olds = c.args.olds.now.items in
    let n = c.args.var.0 in
    let at : position (λ m. m == n) olds ≡ None = ap (λ (os : List ℕ). position (λ m. m == n) os)
    (sym c.deref.ensures.value) ∙ sym c.in-None.ensures in
    let last = not_found olds n at in
    let pushed : c.push.new.self.items ≡ olds ++ n ∷ [] = c.in_ok-push-in-None.ensures.items in
    let long : length c.deref.result.now ≡ length olds = ap (λ (os : List ℕ). length os) c.deref.ensures.value in
    record {
      olds = pushed ∙ sym (met_new olds n last);
      made = c.in_ok-made-in-None.ensures ∙ c.len.ensures ∙ sym c.deref.ensures.len ∙ long
          ∙ sym (place_last olds [] n last) ∙ ap (λ os. place_of os n) (sym pushed);
    }
