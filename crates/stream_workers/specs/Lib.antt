pub mod TasksLeft
