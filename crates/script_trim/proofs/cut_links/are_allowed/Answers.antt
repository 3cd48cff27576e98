use Rattle.std.proofs.Common.{◌≡◌, ◌∙◌, inr, sym, subst, map}
use Rattle.acceptance.specs.AllowedAnswers.{IsWholeBlock, TellsAllowed}
use Rattle.acceptance.specs.declared.answers.Allowed.TheVariants.{All, Not}
use Rattle.block_links.specs.Links.{links_of}
use Rattle.script_trim.specs.Flags.{flag_of}
use Rattle.script_trim.specs.Made.{cut_made}
use Rattle.script_trim.proofs.cut_links.are_allowed.Goals as goal

pub allowed-requires : goal.allowed-requires
allowed-requires c = subst IsWholeBlock (sym (c.as_slice-left.ensures.value ∙ c.in_ok-left.ensures)) c.requires.whole

pub returns-in-All : goal.returns-in-All
returns-in-All c =
    let left : c.as_slice-left.result.now
    ≡ map links_of (cut_made (flag_of c.args.stays.now) c.args.links.now c.args.node c.args.closed.now) =
    c.as_slice-left.ensures.value ∙ c.in_ok-left.ensures in
    let told = subst (λ a. TellsAllowed c.as_slice-left.result.now a) c.in-All.is c.in_ok-allowed.ensures in
    inr (subst (λ ls. TellsAllowed ls All) left told)

pub returns : goal.returns
returns c =
    let left : c.as_slice-left.result.now
    ≡ map links_of (cut_made (flag_of c.args.stays.now) c.args.links.now c.args.node c.args.closed.now) =
    c.as_slice-left.ensures.value ∙ c.in_ok-left.ensures in
    let told = subst (λ a. TellsAllowed c.as_slice-left.result.now a) c.in-Not.is c.in_ok-allowed.ensures in
    λ all. (subst (λ ls. TellsAllowed ls (Not c.in-Not.node)) left told).0 (all c.in-Not.node)
