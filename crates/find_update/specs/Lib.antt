-- The single update that leads from one lane to another: the definitions that the contracts cite.
pub mod Finding
pub mod Promise
pub mod Numbers
pub mod Inner
