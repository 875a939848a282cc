pub mod SpeltInTurn
