pub mod Uses
pub mod Form
pub mod Canon
