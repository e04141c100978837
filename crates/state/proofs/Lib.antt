pub mod StateLaws
pub mod ReleaseLaws
pub mod FitLaws
pub mod AccountLaws
pub mod TickLaws
pub mod StartLaws
