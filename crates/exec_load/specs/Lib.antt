-- An image's pages, segment by segment.
pub mod Installing
pub mod Pages
