pub mod State
pub mod Release
pub mod Methods
pub mod Given
