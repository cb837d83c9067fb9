pub mod FieldForms
pub mod Texts
pub mod LineOrder
pub mod Packing
pub mod TextLaws
