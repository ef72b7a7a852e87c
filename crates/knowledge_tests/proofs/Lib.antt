pub mod GossipRows
pub mod FirstEvents
