use Rattle.std.proofs.Common.{◌≡◌, ◌∙◌, ap, length, arith}
use Rattle.bank_core.specs.Links.{place_of}
use Rattle.bank_core.proofs.LinkItems.{linked_push}
use Rattle.bank_core.proofs.links.Links.insert.Goals as goal

pub invariant_of-self-2 : goal.invariant_of-self-2
invariant_of-self-2 c =
    let n : c.len.result ≡ length c.self.inside.first.items = omega (arith, c.len.ensures) in
    linked_push c.self.inside.first.items c.self.inside.links.items c.push.new.self.items c.args.hash
    c.index-before.result.now c.len-number.result c.bucket-place.result c.self.invariant
    (c.bucket-place.ensures.is ∙ ap (λ x. place_of x c.args.hash) n) (omega (
      arith,
      c.bucket-place.ensures.within,
      n,
    )) c.index-before.ensures (omega (arith, c.len-number.ensures))
    c.in_ok-push.ensures.items
