pub mod Laws
pub mod ByteLaws
pub mod Only
pub mod CountLaws
pub mod PutLaws
pub mod RunLaws
