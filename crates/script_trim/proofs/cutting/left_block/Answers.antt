use Rattle.std.proofs.Common.{◌≡◌, ◌∙◌, List, sym, ap, subst, arith, length, map}
use Rattle.clause_core.specs.declared.answers.Children.{Children}
use Rattle.acceptance.specs.AllowedAnswers.{IsWholeBlock}
use Rattle.block_links.specs.Links.{links_of}
use Rattle.script_trim.specs.Flags.{flag_of, AreInOrder, RefersWithin, TellStaying}
use Rattle.script_trim.specs.Made.{cut_made}
use Rattle.script_trim.proofs.KeptCuts.{left_lists}
use Rattle.script_trim.proofs.cutting.left_block.Goals as goal

pub staying_nodes-requires : goal.staying_nodes-requires
staying_nodes-requires c = record {
  whole = subst IsWholeBlock (sym c.as_slice-links.ensures.value) c.requires.whole;
  order = subst AreInOrder (sym c.as_slice-links.ensures.value) c.requires.order;
}

pub left_links-requires : goal.left_links-requires
left_links-requires c = record {
  whole = subst IsWholeBlock (sym c.as_slice-links.ensures.value) c.requires.whole;
  long = omega (arith, c.in_ok-stays.ensures.long, ap length c.as_slice-stays.ensures.value);
  closed =
      subst (λ (ls : List Children). RefersWithin (length ls) c.args.fit.made) (sym c.as_slice-links.ensures.value)
      c.requires.refs;
}

pub kept_lists-requires : goal.kept_lists-requires
kept_lists-requires c =
    let long : length c.as_slice-stays.result.now ≡ length c.args.block.links.items =
    ap length c.as_slice-stays.ensures.value ∙ c.in_ok-stays.ensures.long ∙ ap length
    c.as_slice-links.ensures.value in
    record {
      nodes = c.requires.nodes ∙ sym long;
      keys = c.requires.keys ∙ sym long;
      flags = c.requires.flags ∙ sym long;
    }

pub returns : goal.returns
returns c =
    let told : TellStaying c.args.block.links.items c.args.node c.as_slice-stays.result.now =
    subst (λ fs. TellStaying c.args.block.links.items c.args.node fs) (sym c.as_slice-stays.ensures.value)
    (subst (λ ls. TellStaying ls c.args.node c.in_ok-stays.stays.items) c.as_slice-links.ensures.value
    c.in_ok-stays.ensures) in
    let is : c.in_ok-left.left.items ≡ map links_of
    (cut_made (flag_of c.as_slice-stays.result.now) c.args.block.links.items c.args.node c.args.fit.made) =
    c.in_ok-left.ensures ∙ ap (λ ls. map links_of
    (cut_made (flag_of c.as_slice-stays.result.now) ls c.args.node c.args.fit.made))
    c.as_slice-links.ensures.value in
    left_lists c.args.block c.args.node c.args.fit.made c.args.rest.items c.as_slice-stays.result.now c.args.bytes told
    c.in_ok-left.left.items is c.kept_lists.result c.kept_lists.ensures.steps c.kept_lists.ensures.links
    c.kept_lists.ensures.nodes c.kept_lists.ensures.keys c.kept_lists.ensures.flags c.kept_lists.ensures.bytes
