pub mod Refusals
pub mod Drafts
pub mod Items
pub mod Rooms
pub mod Modules
pub mod Forms
