pub mod Accepting
pub mod Calling
pub mod Forms
pub mod Marks
pub mod OneFail
pub mod Originating
pub mod Telling
