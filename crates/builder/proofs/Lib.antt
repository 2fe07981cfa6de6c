pub mod StepLaws
pub mod PutLaws
pub mod CallLaws
pub mod KeptLaws
