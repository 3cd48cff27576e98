-- Code with its end gives what the term gives.
use Rattle.std.proofs.Common.{◌≡◌, ◌+◌, [], ◌++◌, refl, sym, ◌∙◌, subst, arith}
use Rattle.std.proofs.lemmas.List.{append-nil}
use Rattle.term_core.specs.Tree.{app, instance, instances}
use Rattle.spec_core.specs.Gives.{Gives}
use Rattle.spec_core.proofs.Values.{call_gives}
use Rattle.rule_code.specs.Code.{slot, last, Does, decide}
use Rattle.rule_code.specs.Laws.{CodeIsRight, CodeIsWhole}
use Rattle.rule_code.proofs.Values.{all_built, call_parts}
use Rattle.rule_code.proofs.Compiling.{codes_right, codes_all_right, codes_whole, codes_all_whole}

pub code_right : CodeIsRight
code_right spec homes env xs t steps (slot s) w n fine (next, c) h d =
    let d₀ : Does spec env (steps ++ []) (slot s) w n = subst (λ xs. Does spec env xs (slot s) w n)
    (sym (append-nil steps)) d in
    let a = codes_right spec fine homes xs t env steps [] (slot s) w n s next c h d₀ in
    let e : a.value ≡ w = sym a.here ∙ sym a.goes.0 in
    let k : a.first ≡ n = omega (arith, a.cost, a.goes.1) in
    subst (λ x. Gives spec (instance xs t) w x) k (subst (λ x. Gives spec (instance xs t) x a.first) e a.gives)
code_right spec homes env xs t steps (decide s number k hs) w n fine c h d = absurd c
code_right spec homes env xs t steps (last f ss) w n fine (ts, next, is, other, c) h d =
    let d₀ : Does spec env (steps ++ []) (last f ss) w n = subst (λ xs. Does spec env xs (last f ss) w n)
    (sym (append-nil steps)) d in
    let a = codes_all_right spec fine homes xs ts env steps [] (last f ss) w n ss next c h d₀ in
    let g : Gives spec (app f a.values) w a.other = subst (λ x. Gives spec (app f x) w a.other) a.here a.goes in
    let r : Gives spec (app f (instances xs ts)) w (a.first + a.other) = call_gives spec fine f other a.give
    (all_built spec a.give) g in
    subst (λ x. Gives spec (instance xs x) w n) (sym is) (subst (λ x. Gives spec (app f (instances xs ts)) w x)
    (sym a.cost) r)

pub code_whole : CodeIsWhole
code_whole spec homes env xs t steps (slot s) w n fine (next, c) h g =
    let b = codes_whole spec fine homes xs t env steps [] (slot s) w n s next c h g in
    let d = b.goes w 0 (sym b.here, refl) in
    let k : n + 0 ≡ n = omega arith in
    subst (λ x. Does spec env steps (slot s) w x) k
    (subst (λ xs. Does spec env xs (slot s) w (n + 0)) (append-nil steps) d)
code_whole spec homes env xs t steps (decide s number k hs) w n fine c h g = absurd c
code_whole spec homes env xs t steps (last f ss) w n fine (ts, next, is, other, c) h g =
    let p = call_parts spec f other (subst (λ x. Gives spec (instance xs x) w n) is g) in
    let b = codes_all_whole spec fine homes xs ts env steps [] (last f ss) p.vs p.args ss next c h p.give in
    let e : Does spec (env ++ b.more) [] (last f ss) w p.more = subst (λ x. Gives spec (app f x) w p.more)
    (sym b.here) p.gives in
    let d = b.goes w p.more e in
    subst (λ x. Does spec env steps (last f ss) w x) (sym p.cost)
    (subst (λ xs. Does spec env xs (last f ss) w (p.args + p.more)) (append-nil steps) d)
