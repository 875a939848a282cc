pub mod CutLinesAndWords
pub mod NumbersReadInRange
pub mod NumbersInTurn
pub mod DraftsGrow
pub mod WhatWordsSay
pub mod LinesInTurn
pub mod OneScene
pub mod SpelledHasNoFault
pub mod AnswersForced
pub mod PrintedWordsSay
pub mod PrintedSpells
pub mod WholePictures
mod FaultFreeSpells
pub mod NamesFound
pub mod RestCounted
