pub mod Ring
pub mod Order
pub mod Linear
pub mod Examples
pub mod PolyLaws
pub mod InnerProductLaws
