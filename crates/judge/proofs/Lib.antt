-- Laws of the search.
pub mod Alike
pub mod Walk
pub mod Targets
pub mod Deciding
pub mod Fewer
pub mod Rounds
pub mod Computed
pub mod Judgements
