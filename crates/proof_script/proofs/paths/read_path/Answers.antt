use Rattle.std.proofs.Common.{◌∷◌, ◌++◌, [], List, ℕ, ap, sym, ◌∙◌, subst}
use Rattle.std.specs.List.{AllByRecursion}
use Rattle.term_core.proofs.Items.{all_append}
use Rattle.proof_script.specs.Standing.{Between}
use Rattle.proof_script.proofs.LineParts.{not_empty}
use Rattle.proof_script.proofs.PathsAt.{path_text, goes_on, no_path, path_grows}
use Rattle.proof_script.proofs.paths.read_path.Goals as goal

pub returns-in_default : goal.returns-in_default
returns-in_default c =
    no_path c.args.bytes.now c.loop-rest.rest.now c.loop-rest.invariant.goes_on
    (not_empty c.loop-rest.rest.now c.is_empty.result c.is_empty.ensures c.loop-rest-test.true)
    c.in_default.ensures

pub loop-rest-preserved : goal.loop-rest-preserved
loop-rest-preserved c =
    let bytes = c.args.bytes.now in
    let path = c.loop-rest.path in
    let rest = c.loop-rest.rest.now in
    let number = c.in-Some.number in
    let behind = c.in-Some.behind.now in
    let pushed = c.in_ok-push.ensures.pushed in
    record {
      read = path_grows bytes path rest number behind c.loop-rest.invariant.read c.in-Some.ensures
          ∙ ap (λ (p : List ℕ). path_text p ++ behind) (sym pushed);
      between = subst (λ (p : List ℕ). AllByRecursion (Between 1 9) p) (sym pushed)
          (all_append (Between 1 9) path (number ∷ []) c.loop-rest.invariant.between (c.in-Some.ensures.between, tt));
      goes_on = goes_on bytes rest number behind c.loop-rest.invariant.goes_on c.in-Some.ensures;
    }
