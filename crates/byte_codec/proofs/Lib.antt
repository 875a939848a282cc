pub mod WrittenInTurn
