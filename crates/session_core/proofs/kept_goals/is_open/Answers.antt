use Rattle.std.proofs.Common.{◌≡◌, ◌++◌, ◌∷◌, [], false, true, ap, arith, length, map, refl, sym, ◌∙◌}
use Rattle.std.proofs.lemmas.Bool.{lt-ltb, ltb-true}
use Rattle.std.proofs.lemmas.List.{length-map, map-append}
use Rattle.inference_rules.specs.declared.nodes.Node.{Node}
use Rattle.session_core.specs.Kept.{Kept}
use Rattle.session_core.specs.Value.{kept_of}
use Rattle.session_core.proofs.LastEntries.{last_same, last_split, no_last_item, not_ended}
use Rattle.session_core.proofs.kept_goals.is_open.Goals as goal

pub returns-in-Some : goal.returns-in-Some
returns-in-Some c =
    let g = c.in-Some.goal.now in
    let s = last_split c.args.goals.now _ g refl (sym c.in-Some.ensures.value) in
    let is : map kept_of c.args.goals.now ≡ map kept_of s.0 ++ kept_of g ∷ [] = ap (map kept_of) s.1 ∙
    map-append kept_of s.0 (g ∷ []) in
    let many : length (kept_of g).nodes ≡ length g.taken.nodes.items =
    length-map g.taken.nodes.items (λ (node : Node). node.clause) in (
      λ t. record {
        front = map kept_of s.0;
        last = kept_of g;
        is = is;
        unfinished = omega (
          arith,
          ltb-true c.len.result c.len-in-Some.result t,
          c.len.ensures,
          c.len-in-Some.ensures,
          many,
        );
      },
      λ h.
          let e : kept_of g ≡ h.last = last_same (map kept_of s.0) h.front (kept_of g) h.last (sym is ∙ h.is) in
          lt-ltb c.len.result c.len-in-Some.result
          (omega (
            arith,
            h.unfinished,
            c.len.ensures,
            c.len-in-Some.ensures,
            many,
            ap (λ (x : Kept). length x.nodes) e,
            ap (λ (x : Kept). length x.links) e,
          )),
    )

pub returns-in-None : goal.returns-in-None
returns-in-None c =
    let s = no_last_item c.args.goals.now _ refl (sym c.in-None.ensures.value) in (
      λ t. absurd (let q : false ≡ true = t in cc),
      λ h. absurd (not_ended h.front h.last (sym (ap (map kept_of) s) ∙
          h.is)),
    )
