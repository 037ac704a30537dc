pub mod Recognising
