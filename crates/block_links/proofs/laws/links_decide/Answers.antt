-- The laws of links alone, together.
use Rattle.block_links.proofs.LinksAlone.{allowed_by_links, links_allowed, whole_links}
use Rattle.block_links.proofs.laws.links_decide.Goals as goal

pub returns : goal.returns
returns k = record {
  allowed = λ made j. (allowed_by_links made j, links_allowed made j);
  whole = whole_links;
}
