pub mod Uses
pub mod Weights
pub mod Texts
pub mod Same
pub mod Form
pub mod Laws
pub mod Commutes
pub mod Under
