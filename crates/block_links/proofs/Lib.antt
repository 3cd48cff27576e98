-- Links alone decide what is allowed.
pub mod LinksAlone
